-- The lengths of a file's records. Assumes nothing.
-- Holds: length-numbers, length-floats, length-settings, length-head, length-point, length_front, length-level, length-domain,
--   own_total, borrowed_total, length-domains-in, length-leaves-at, length-leaves-in
use mathlib.Core.Path.{◌≡◌, refl, ap, ◌∙◌}
use Prim.Native.Nat.{ℕ, zero, suc, ◌+◌, ◌*◌}
use native.Mathlib.Nat.{mul_comm}
use native.Mathlib.Omega.{arith}
use mathlib.Core.Bool.{Bool}
use mathlib.Core.List.{List, [], ◌∷◌, map, Memᴰ}
use lib.ListN.{length, drop, length-append, length-map}
use lib.Ieee.{Float, binary64, to_bits}
use Rattle.lists.specs.Lists.{total, from, joined}
use Rattle.lists.proofs.From.{length_from}
use Rattle.lists.proofs.Joined.{joined-map-even}
use Rattle.definition.specs.Levels.{Policy, auto, fixed}
use Rattle.definition.specs.Tree.{Settings, Leaf, Level, point_count}
use Rattle.formats.specs.Bytes.{mark_size, number_size, number_bytes, numbers_bytes, float_size, float_bytes, floats_bytes}
use Rattle.formats.specs.Stream.{policy_field, threshold_field, settings_bytes, policy_bytes, settings_size, point_size_lem}
use Rattle.bytes_out.proofs.Bytes.{length-bytes}
use Rattle.stored.specs.File.{head_bytes_lem, point_bytes, front_bytes_lem, level_bytes, domain_bytes}
use Rattle.stored.specs.Stored.{head_size, counts_size, second_count, leaf_size, leaves_at_lem, one_domain, domains_place, level_in}

-- ---- numbers and floats
pub length-numbers : (ns : List ℕ) → length (numbers_bytes ns) ≡ number_size * length ns
unfolding numbers_bytes
length-numbers ns = joined-map-even number_bytes number_size (length-bytes number_size) ns

pub length-floats : (xs : List Float) → length (floats_bytes xs) ≡ float_size * length xs
unfolding floats_bytes
length-floats xs = joined-map-even float_bytes float_size (λ x. length-bytes float_size (to_bits binary64 x)) xs

-- ---- head and points
length-policy : (p : Policy) → length (policy_bytes p) ≡ policy_field.width + threshold_field.width
length-policy auto = simp (length-append, length-bytes)
length-policy (fixed c) = simp (length-append, length-bytes)

pub length-settings : (s : Settings) → mark_size + length (settings_bytes s) ≡ settings_size
unfolding settings_bytes
length-settings s = simp (length-append, length-bytes, length-policy)

pub length-head : (s : Settings) (n : ℕ) → length (head_bytes_lem s n) ≡ head_size
unfolding head_bytes_lem
length-head s n = simp (length-append, length-bytes) (omega (arith, length-settings s))

pub length-point : (d : ℕ) (cs : List Float) (i : ℕ) → length (point_bytes d cs i) ≡ point_size_lem d
unfolding point_bytes
length-point d cs i = simp (length-floats, length-map, length_from) (omega arith)

pub length_front : (s : Settings) (cs : List Float) → length (front_bytes_lem s cs) ≡ head_size + point_count s.dimension cs * point_size_lem s.dimension
unfolding front_bytes_lem
length_front s cs =
    let d = s.dimension in
    let n = point_count d cs in
    length-append (head_bytes_lem s n) (joined (map (point_bytes d cs) (from 0 n)))
    ∙ omega (arith, length-head s n, joined-map-even (point_bytes d cs) (point_size_lem d) (length-point d cs) (from 0 n), length_from 0 n, ap (λ (k : ℕ). point_size_lem d * k) (length_from 0 n), mul_comm n (point_size_lem d))

-- ---- levels and domains
pub length-level : (l : Level) → length (level_bytes l) ≡ counts_size + number_size * length l.points
unfolding level_bytes
length-level l = simp (length-append, length-bytes, length-numbers) (omega arith)

pub length-domain : (bounds : List Float) (f : Leaf)
    → length (domain_bytes bounds f) ≡ counts_size + number_size * (length f.own + length f.borrowed) + float_size * (length bounds + 1) + number_size
unfolding domain_bytes
length-domain bounds f = simp (length-append, length-bytes, length-numbers, length-floats) (omega arith)

-- the own rows, and the borrowed rows, of leaves
abbrev pub own_total : List Leaf → ℕ
own_total fs = total (map (λ f. length f.own) fs)

abbrev pub borrowed_total : List Leaf → ℕ
borrowed_total fs = total (map (λ f. length f.borrowed) fs)

-- domains one after the other, with w bounds, a cover and a depth each
pub length-domains-in : (bounds : Leaf → List Float) (w : ℕ) (fs : List Leaf) → ((f : Leaf) → Memᴰ f fs → length (bounds f) ≡ w)
    → length (joined (map (λ f. domain_bytes (bounds f) f) fs)) ≡ (counts_size + float_size * (w + 1) + number_size) * length fs + number_size * (own_total fs + borrowed_total fs)
unfolding joined total
length-domains-in bounds w [] h = omega arith
length-domains-in bounds w (f ∷ fs) h =
    length-append (domain_bytes (bounds f) f) (joined (map (λ f. domain_bytes (bounds f) f) fs))
    ∙ omega (arith, length-domain (bounds f) f, h f (Memᴰ.head refl), length-domains-in bounds w fs (λ g m. h g (Memᴰ.tail m)))

-- ---- as many leaves as are read
pub length-leaves-at : (d : ℕ) (coarse : Bool) (m : ℕ) (bs : List ℕ) → length (leaves_at_lem d coarse m bs) ≡ m
unfolding leaves_at_lem
length-leaves-at d coarse zero bs = refl
length-leaves-at d coarse (suc m) bs = ap suc (length-leaves-at d coarse m (drop (leaf_size d coarse bs) bs))

pub length-leaves-in : (d : ℕ) (bs : List ℕ) → length (level_in d bs).leaves ≡ second_count bs
unfolding level_in
length-leaves-in d bs = length-leaves-at d (one_domain bs) (second_count bs) (drop (domains_place bs) bs)

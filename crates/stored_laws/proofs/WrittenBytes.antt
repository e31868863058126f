-- The bytes of a file are bytes. Assumes nothing.
use Prim.Native.Nat.{ℕ, zero, suc, ◌/◌, ◌<◌}
use native.Mathlib.Omega.{arith}
use mathlib.Core.List.{List, [], ◌∷◌, ◌++◌, map}
use lib.ListN.{length}
use lib.Ieee.{Float, binary64, to_bits}
use Rattle.lists.specs.Lists.{from, joined}
use Rattle.lists.specs.Ascends.{All}
use Rattle.lists.proofs.All.{all_append, all-joined, all_map, all-of}
use Rattle.definition.specs.Points.{coordinate}
use Rattle.definition.specs.Levels.{Policy, auto, fixed}
use Rattle.definition.specs.Tree.{Settings, Leaf, Level, point_count}
use Rattle.formats.specs.Bytes.{Mark, mark_bytes, bytes_of, number_size, number_bytes, numbers_bytes, float_size, float_bytes, floats_bytes}
use Rattle.formats.specs.Stream.{policy_bytes, settings_bytes}
use Rattle.stored.specs.File.{head_mark, file_point_mark, level_mark, domain_mark, head_bytes_lem, point_bytes, front_bytes_lem, level_bytes, domain_bytes, tree_records, file_bytes}
use Rattle.stored_laws.specs.Writable.{IsByte}

abbrev Bytes : List ℕ → Type 0
Bytes l = All IsByte l

-- ---- fields
and_then : (xs ys : List ℕ) → Bytes xs → Bytes ys → Bytes (xs ++ ys)
and_then xs ys h g = all_append IsByte xs ys h g

each : {A : Type 0} (write : A → List ℕ) (xs : List A) → ((x : A) → Bytes (write x)) → Bytes (joined (map write xs))
each write xs h = all-joined IsByte (map write xs) (all_map Bytes write xs (all-of (λ x. Bytes (write x)) xs (λ x m. h x)))

number-bytes : (k n : ℕ) → Bytes (bytes_of k n)
unfolding bytes_of All
number-bytes zero n = tt
number-bytes (suc k) n = (omega arith, number-bytes k (n / 256))

numbers-bytes : (ns : List ℕ) → Bytes (numbers_bytes ns)
unfolding numbers_bytes
numbers-bytes ns = each number_bytes ns (number-bytes number_size)

floats-bytes : (xs : List Float) → Bytes (floats_bytes xs)
unfolding floats_bytes
floats-bytes xs = each float_bytes xs (λ x. number-bytes float_size (to_bits binary64 x))

mark-bytes : (m : Mark) → m.first < 256 → m.second < 256 → Bytes (mark_bytes m)
unfolding All
mark-bytes m a b = (a, (b, tt))

-- ---- records
policy-bytes : (p : Policy) → Bytes (policy_bytes p)
policy-bytes auto = and_then (bytes_of 1 0) (number_bytes 0) (number-bytes 1 0) (number-bytes number_size 0)
policy-bytes (fixed c) = and_then (bytes_of 1 1) (number_bytes c) (number-bytes 1 1) (number-bytes number_size c)

settings-bytes : (s : Settings) → Bytes (settings_bytes s)
unfolding settings_bytes
settings-bytes s =
    and_then _ (policy_bytes s.policy)
    (and_then _ (number_bytes s.factor)
    (and_then _ (number_bytes s.neighbours)
    (and_then (bytes_of 1 s.dimension) (number_bytes s.leaf) (number-bytes 1 s.dimension) (number-bytes number_size s.leaf))
    (number-bytes number_size s.neighbours))
    (number-bytes number_size s.factor))
    (policy-bytes s.policy)

head_bytes : (s : Settings) (n : ℕ) → Bytes (head_bytes_lem s n)
unfolding head_bytes_lem
head_bytes s n =
    and_then (mark_bytes head_mark ++ settings_bytes s) (number_bytes n)
    (and_then (mark_bytes head_mark) (settings_bytes s) (mark-bytes head_mark (omega arith) (omega arith)) (settings-bytes s))
    (number-bytes number_size n)

point-bytes : (d : ℕ) (cs : List Float) (i : ℕ) → Bytes (point_bytes d cs i)
unfolding point_bytes
point-bytes d cs i = and_then (mark_bytes file_point_mark) _ (mark-bytes file_point_mark (omega arith) (omega arith)) (floats-bytes (map (coordinate d cs i) (from 0 d)))

front_bytes : (s : Settings) (cs : List Float) → Bytes (front_bytes_lem s cs)
unfolding front_bytes_lem
front_bytes s cs =
    let d = s.dimension in
    let n = point_count d cs in
    and_then (head_bytes_lem s n) _ (head_bytes s n) (each (point_bytes d cs) (from 0 n) (point-bytes d cs))

level-bytes : (l : Level) → Bytes (level_bytes l)
unfolding level_bytes
level-bytes l =
    and_then _ (numbers_bytes l.points)
    (and_then _ (number_bytes (length l.leaves))
    (and_then (mark_bytes level_mark) (number_bytes (length l.points)) (mark-bytes level_mark (omega arith) (omega arith)) (number-bytes number_size (length l.points)))
    (number-bytes number_size (length l.leaves)))
    (numbers-bytes l.points)

domain-bytes : (bounds : List Float) (f : Leaf) → Bytes (domain_bytes bounds f)
unfolding domain_bytes
domain-bytes bounds f =
    and_then _ (number_bytes f.depth)
    (and_then _ (floats_bytes (bounds ++ f.cover ∷ []))
    (and_then _ (numbers_bytes f.borrowed)
    (and_then _ (numbers_bytes f.own)
    (and_then _ (number_bytes (length f.borrowed))
    (and_then (mark_bytes domain_mark) (number_bytes (length f.own)) (mark-bytes domain_mark (omega arith) (omega arith)) (number-bytes number_size (length f.own)))
    (number-bytes number_size (length f.borrowed)))
    (numbers-bytes f.own))
    (numbers-bytes f.borrowed))
    (floats-bytes (bounds ++ f.cover ∷ [])))
    (number-bytes number_size f.depth)

-- ---- the file
domains-bytes : (bounds : Leaf → List Float) (fs : List Leaf) → All Bytes (map (λ f. domain_bytes (bounds f) f) fs)
domains-bytes bounds fs = all_map Bytes (λ f. domain_bytes (bounds f) f) fs (all-of (λ f. Bytes (domain_bytes (bounds f) f)) fs (λ f m. domain-bytes (bounds f) f))

records-bytes : (ls : List Level) → All Bytes (tree_records ls)
unfolding tree_records All
records-bytes [] = tt
records-bytes (l ∷ []) = (level-bytes l, domains-bytes (λ f. []) l.leaves)
records-bytes (l ∷ m ∷ ls) = (level-bytes l, all_append Bytes (map (λ f. domain_bytes f.box f) l.leaves) (tree_records (m ∷ ls)) (domains-bytes (λ f. f.box) l.leaves) (records-bytes (m ∷ ls)))

pub file-bytes : (s : Settings) (cs : List Float) (ls : List Level) → All IsByte (file_bytes s cs ls)
unfolding file_bytes
file-bytes s cs ls = and_then (front_bytes_lem s cs) (joined (tree_records ls)) (front_bytes s cs) (all-joined IsByte (tree_records ls) (records-bytes ls))

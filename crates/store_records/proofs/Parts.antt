-- The records of a stored tree as the parts that the code writes one after the other. Assumes nothing.
-- Holds: point-parts, domain-parts, no-bounds, all-bounds
use mathlib.Core.Path.{◌≡◌, sym}
use Prim.Native.Nat.{ℕ, ◌+◌, ◌-◌, ◌*◌, ◌≤◌}
use mathlib.Core.Bool.{Bool, true, false}
use mathlib.Core.List.{List, [], ◌∷◌, ◌++◌, map, append_assoc}
use lib.ListN.{length, take, drop}
use lib.Ieee.{Float, nan}
use Rattle.lists.specs.Lists.{joined, part, from}
use Rattle.lists.proofs.Put.{length_part, get_d_part, part-lent}
use Rattle.lists.proofs.Joined.{joined-map-snoc}
use Rattle.lists.proofs.From.{list-below}
use Rattle.definition.specs.Points.{coordinate}
use Rattle.definition.specs.Tree.{Leaf}
use Rattle.formats.specs.Bytes.{mark_bytes, number_bytes, numbers_bytes, float_bytes, floats_bytes}
use Rattle.stored.specs.File.{file_point_mark, domain_mark, point_bytes, domain_bytes}
use Rattle.store_records.specs.Records.{counts_bytes, bounds_given, domain_record}

-- ---- records
pub point-parts : (d : ℕ) (cs : List Float) (i : ℕ) → i * d + d ≤ length cs
    → point_bytes d cs i ≡ mark_bytes file_point_mark ++ joined (map float_bytes (part cs (i * d) d))
unfolding point_bytes floats_bytes
point-parts d cs i h =
    let e : map (coordinate d cs i) (from 0 d) ≡ part cs (i * d) d =
    sym (list-below (coordinate d cs i) (part cs (i * d) d) d nan (length_part cs (i * d) d h) (λ a g. get_d_part cs (i * d) d a nan g)) in
    rw e

-- a domain's record, by the leaf that was read
cover_apart : (a b c d e f g h : List ℕ) → a ++ b ++ c ++ d ++ e ++ (f ++ g) ++ h ≡ a ++ b ++ c ++ d ++ e ++ f ++ g ++ h
cover_apart a b c d e f g h = simp append_assoc

module _ (coarse : Bool) (f : Leaf) where
  with_cover : (b : List Float) → floats_bytes (b ++ f.cover ∷ []) ≡ floats_bytes b ++ float_bytes f.cover
  unfolding floats_bytes
  with_cover b = joined-map-snoc float_bytes b f.cover

  pub domain-parts : (g : Leaf) → f ≡ g → domain_record coarse g
      ≡ counts_bytes domain_mark (length f.own) (length f.borrowed) ++ joined (map number_bytes f.own) ++ joined (map number_bytes f.borrowed)
      ++ floats_bytes (bounds_given coarse f.box) ++ float_bytes f.cover ++ number_bytes f.depth
  unfolding domain_record domain_bytes counts_bytes numbers_bytes
  domain-parts g e = rw (← e, with_cover (bounds_given coarse f.box)) (cover_apart
      (mark_bytes domain_mark)
      (number_bytes (length f.own))
      (number_bytes (length f.borrowed))
      (joined (map number_bytes f.own))
      (joined (map number_bytes f.borrowed))
      (floats_bytes (bounds_given coarse f.box))
      (float_bytes f.cover)
      (number_bytes f.depth))

-- the bounds that a record has
pub no-bounds : (coarse : Bool) (bounds : List Float) → coarse ≡ true → floats_bytes (bounds_given coarse bounds) ≡ []
unfolding bounds_given floats_bytes joined
no-bounds coarse bounds e = rw e

pub all-bounds : (coarse : Bool) (bounds : List Float) → coarse ≡ false → floats_bytes (bounds_given coarse bounds) ≡ joined (map float_bytes bounds)
unfolding bounds_given floats_bytes
all-bounds coarse bounds e = rw e

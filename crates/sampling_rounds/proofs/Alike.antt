-- Squares in place of distances: a least square whose root is the least distance. Assumes nothing.
-- Holds: Alike, alike-inf, alike-lt, alike-lesser
use mathlib.Core.Path.{◌≡◌, refl, sym, ap₂}
use mathlib.Core.Bool.{Bool, true, false, cond}
use lib.Ieee.{Float, inf, lt}
use Rattle.lists.proofs.Tests.{clash}
use Rattle.definition.specs.Number.{square_root_lem}
use Rattle.root_laws.specs.Sorts.{good}
use Rattle.root_laws.proofs.Order.{lt-asym}
use Rattle.root_laws.proofs.Operations.{inf-good}
use Rattle.root_laws.proofs.Values.{root-good, root-order, root-inf}
use Rattle.sampling_rounds.specs.Rounds.{lesser}
use Rattle.sampling_rounds.proofs.Orders.{good-same}

-- the distance l is the root of the square m
pub record Alike (m l : Float) : Type 0 where
  pub good-m : good m ≡ true
  pub rooted : l ≡ square_root_lem m

pub alike-inf : Alike (inf false) (inf false)
alike-inf = record { good-m = inf-good; rooted = sym root-inf }

-- two such pairs compare alike
pub alike-lt : (m l m' l' : Float) → Alike m l → Alike m' l' → lt (square_root_lem m) (square_root_lem m') ≡ lt l l'
alike-lt m l m' l' a b = ap₂ lt (sym a.rooted) (sym b.rooted)

-- one square more is taken in
pub alike-lesser : (x m l : Float) → good x ≡ true → Alike m l → Alike (lesser x m) (lesser (square_root_lem x) l)
alike-lesser x m l g a = go (lt x m) refl (lt (square_root_lem x) l) refl
  where
    go : (s : Bool) → lt x m ≡ s → (t : Bool) → lt (square_root_lem x) l ≡ t → Alike (cond s x m) (cond t (square_root_lem x) l)
    go true e true h = record { good-m = g; rooted = refl }
    go true e false h =
        record {
          good-m = g;
          rooted =
              good-same l (square_root_lem x) (rw a.rooted (root-good m a.good-m)) (root-good x g)
              (rw a.rooted (root-order x m g a.good-m (lt-asym x m g a.good-m e))) h;
        }
    go false e true h = clash h (rw a.rooted (root-order m x a.good-m g e))
    go false e false h = a

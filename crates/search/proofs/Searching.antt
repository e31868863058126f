-- A whole search: it starts at the root with nothing visited, and its end is what a scan finds. Assumes nothing.
use mathlib.Core.Path.{sym, ap, ◌∙◌}
use mathlib.Core.Bool.{not, ◌&&◌}
use mathlib.Core.List.{List, [], Memᴰ}
use Prim.Native.Nat.{ℕ, ◌≤◌, ◌<◌}
use lib.Dec.{eqb}
use lib.ListN.{length, take}
use lib.Ieee.{Float}
use Rattle.lists.specs.Lists.{count, from}
use Rattle.lists.specs.Ascends.{All}
use Rattle.lists.proofs.All.{all-of}
use Rattle.lists.proofs.Count.{count-keep}
use Rattle.lists.proofs.Ascends.{ascends-from, ascends-once}
use Rattle.lists.proofs.Same.{same_mem, same_once}
use Rattle.definition.specs.Overlaps.{others}
use Rattle.definition.specs.Record.{Cuts}
use Rattle.rows.specs.Rows.{GoodRow}
use Rattle.record_laws.specs.Table.{rows_under}
use Rattle.cut_index.specs.Filed.{positions_of}
use Rattle.cut_index.proofs.Positions.{positions-same}
use Rattle.nearest_scan.specs.Near.{Found}
use Rattle.kept_laws.proofs.Searches.{state-none, state-found}
use Rattle.search.specs.declared.Search.{Search}
use Rattle.search.specs.declared.Place.{Place}
use Rattle.search.specs.Visits.{Asked, Offered, Offers, Stands, Searchable}
use Rattle.search.proofs.Places.{places-below, places-rows, others-active}

module _ (s : Search) (row : ℕ) (k : Searchable s) (whose : GoodRow s.points.dimensions s.points.coordinates.now row) where
  abbrev active : List ℕ
  active = s.active.now

  abbrev rows : List ℕ
  rows = rows_under k.tree

  asked : Asked s row
  asked = record { few = k.few; good = k.good; whose = whose }

  all-active : All (λ r. Memᴰ r s.active.now) (rows_under k.tree)
  all-active = all-of (λ r. Memᴰ r active) rows (λ r m. same_mem rows active k.rows r m)

  abbrev root : Place
  root = record { at = 0; whole = s.whole }

  -- the root stands there
  root-stands : Stands s (record { at = 0; whole = s.whole }) k.tree
  root-stands = record { filed = k.filed; boxed = k.boxed; axes = k.axes }

  -- both lists have room
  module _ (near : List ℕ) (far : List Float) (room : s.neighbours ≤ length near) (room2 : s.neighbours ≤ length far) where
    -- and its rows are offered
    root-offered : Offered s row (rows_under k.tree) [] near far 0
    unfolding All
    root-offered =
        record {
          asked = asked;
          active = all-active;
          below = tt;
          once = same_once (positions_of active rows) (from 0 (length active)) (positions-same active rows k.good.ascends k.rows)
              (ascends-once (from 0 (length active)) (ascends-from 0 (length active)));
          held = state-none s.points.dimensions s.points.coordinates.now active row k.good whose s.neighbours near far room room2;
        }

    pub root-asked : 0 < s.neighbours → (t : Cuts) × (v : List ℕ) × (0 < s.neighbours) × Stands s (record { at = 0; whole = s.whole }) t × Offered s row (rows_under t) v near far 0
    root-asked some = (k.tree, [], some, root-stands, root-offered)

    -- THE LAW: when all its rows but the row itself were offered, what is kept is what a scan finds
    pub root-found : (near' : List ℕ) (far' : List Float) (n : ℕ)
        → ((t : Cuts) → Stands s (record { at = 0; whole = s.whole }) t → Offers s row (rows_under t) near far 0 near' far' n)
        → (n ≤ s.neighbours) × Found s.points.dimensions s.points.coordinates.now s.active.now row s.neighbours (take n near') (take n far')
    root-found near' far' n done =
        state-found s.points.dimensions s.points.coordinates.now active row k.good whose s.neighbours (positions_of active (others rows row)) near' far' n
        (done k.tree root-stands [] root-offered)
        (places-below active k.good.ascends (others rows row) (others-active active row rows all-active))
        (λ p. ap (count p) (places-rows active k.good.ascends (others rows row) (others-active active row rows all-active))
        ∙ count-keep p (λ j. not (eqb j row)) rows ∙ k.rows (λ j. not (eqb j row) && p j) ∙ sym (count-keep p (λ j. not (eqb j row)) active))

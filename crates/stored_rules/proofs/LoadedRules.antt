-- A TREE THAT PASSES ITS TESTS HAS DEMAND 3'S RULES WHERE IT IS HANDED OUT, AND ITS LEAVES' SIZES FOLLOW FROM THEIR DEPTHS. Assumes nothing.
use mathlib.Core.Path.{◌≡◌, sym, ap, ◌∙◌}
use mathlib.Core.Bool.{true}
use mathlib.Core.List.{List, map}
use Prim.Native.Nat.{ℕ, suc, ◌-◌, ◌≤◌, ◌<◌}
use native.Mathlib.Omega.{arith}
use native.Mathlib.Decide.{dec_lt}
use native.Mathlib.Nat.{zero-add}
use lib.ListN.{length, get_or}
use Rattle.lists.specs.Lists.{from, joined}
use Rattle.lists.specs.Ascends.{All}
use Rattle.lists.specs.Times.{times}
use Rattle.lists.proofs.All.{all-at}
use Rattle.lists.proofs.Ascends.{ascends-once}
use Rattle.lists.proofs.From.{map-from-at}
use Rattle.definition.specs.Tree.{Settings, Leaf, Level}
use Rattle.definition.specs.Packed.{counts_of}
use Rattle.definition.specs.Refusals.{accepted}
use Rattle.definition.specs.Outcome.{TreeLists, tree_lists_after}
use Rattle.packed.proofs.Counts.{no_level}
use Rattle.packed.proofs.Unpacked.{no_leaf}
use Rattle.demand3.specs.Handed.{Handed, handed, level_count, leaves_on, HasNext, listed, own_of, borrowed_of, own_lists}
use Rattle.demand3.specs.Demand3.{Rows, NextRows, SingleDomain}
use Rattle.demand3.specs.LoadedTree.{LoadedTree}
use Rattle.demand3.specs.Depths.{TreeDepths}
use Rattle.demand3.proofs.Unpack.{PackedIn, handed-levels, handed-leaves, handed-listed, handed-own, handed-borrowed, handed-box, handed-counted, handed-beyond}
use Rattle.demand3.proofs.Depths.{depths-handed}
use Rattle.stored.specs.Sound.{sound}
use Rattle.stored_built.proofs.Held.{lists-hold}
use Rattle.stored_laws.specs.Writable.{BoxesFit}
use Rattle.stored_rules.proofs.LevelRows.{LeafRows, LevelRows}
use Rattle.stored_rules.proofs.LastLevel.{last-holds-all, last-borrows-none, last-no-box}
use Rattle.stored_rules.proofs.SoundTree.{SoundTree, sound-tree}

-- ---- lists and counts that hold a tree
module _ (d : ℕ) (ls : List Level) (h : Handed) (packs : PackedIn d ls h) where
  abbrev level_at_lem : ℕ → Level
  level_at_lem l = get_or ls l no_level

  levels-are : level_count h ≡ length ls
  levels-are = handed-levels d ls h packs

  listed_at : (l : ℕ) → listed h l ≡ (level_at_lem l).points
  listed_at l = handed-listed d ls h packs l

  leaves_at : (l : ℕ) → leaves_on h l ≡ length (level_at_lem l).leaves
  leaves_at l = handed-leaves d ls h packs l

  -- ---- a leaf
  module _ (l i : ℕ) (m : i < leaves_on h l) where
    abbrev leaf_at : Leaf
    leaf_at = get_or (level_at_lem l).leaves i no_leaf

    there : i < length (level_at_lem l).leaves
    there = omega (arith, leaves_at l)

    own_at : own_of h l i ≡ (get_or (level_at_lem l).leaves i no_leaf).own
    own_at = handed-own d ls h packs l i there

    borrowed_at : borrowed_of h l i ≡ (get_or (level_at_lem l).leaves i no_leaf).borrowed
    borrowed_at = handed-borrowed d ls h packs l i there

  own-all : (l : ℕ) → own_lists h l ≡ map (λ f. f.own) (level_at_lem l).leaves
  unfolding own_lists
  own-all l =
      let fs = (level_at_lem l).leaves in
      ap (λ (m : ℕ). map (own_of h l) (from 0 m)) (leaves_at l)
      ∙ map-from-at (own_of h l) (λ f. f.own) no_leaf fs 0 (λ i m. ap (own_of h l) (zero-add i) ∙ handed-own d ls h packs l i m)

  -- ---- the rules of a level whose rows pass their tests
  module _ (l : ℕ) (rows : LevelRows (level_at_lem l)) where
    once : (r : ℕ) → times r (listed h l) ≤ 1
    once r = omega (arith, ap (times r) (listed_at l), ascends-once (level_at_lem l).points rows.ascends r)

    shared : (r : ℕ) → times r (joined (own_lists h l)) ≡ times r (listed h l)
    shared r = ap (λ (x : List (List ℕ)). times r (joined x)) (own-all l) ∙ rows.shares r ∙ ap (times r) (sym (listed_at l))

    module _ (i : ℕ) (m : i < leaves_on h l) where
      has : LeafRows (level_at_lem l).points (get_or (level_at_lem l).leaves i no_leaf)
      has = all-at (LeafRows (level_at_lem l).points) (level_at_lem l).leaves i no_leaf rows.leaves-have (there l i m)

      foreign : (r : ℕ) → 0 < times r (own_of h l i) → times r (borrowed_of h l i) ≡ 0
      foreign r k = elim (dec_lt 0 (times r (borrowed_of h l i))) [
        | yes b ↦
            let none = has.borrows-foreign r (omega (arith, ap (times r) (borrowed_at l i m))) in
            absurd (omega (arith, ap (times r) (own_at l i m)))
        | no b ↦ omega arith
      ]

      borrows_once : (r : ℕ) → times r (borrowed_of h l i) ≤ 1
      borrows_once r = omega (arith, ap (times r) (borrowed_at l i m), ascends-once (leaf_at l i m).borrowed has.borrowed-ascends r)

    has-rows : Rows h l
    has-rows = record {
      internal_once = λ r m. omega (arith, shared r, once r);
      internal_none = λ r m. omega (arith, shared r);
      borrows_not_own = foreign;
      borrows_once = borrows_once;
    }

  -- ---- the rules of the whole tree, which passes its tests
  module _ (n : ℕ) (tests : SoundTree d n ls) (fit : All BoxesFit ls) where
    has-next : (l : ℕ) → HasNext h l → NextRows h l
    has-next l m =
        let under = tests.next l (omega (arith, levels-are)) in
        record {
          fewer = omega (arith, ap length (listed_at l), ap length (listed_at (suc l)), under.fewer);
          each_once = once (suc l) (tests.rows (suc l) (omega (arith, levels-are)));
          from_this = λ r k.
              let there = under.from-above r (omega (arith, ap (times r) (listed_at (suc l)))) in
              omega (arith, ap (times r) (listed_at l));
        }

    is-single : SingleDomain d h (level_count h - 1)
    is-single =
        let l = level_count h - 1 in
        let s : suc l ≡ length ls = omega (arith, levels-are, tests.some) in
        let rows = tests.rows l (omega arith) in
        let last = tests.last l s in
        let one : leaves_on h l ≡ 1 = leaves_at l ∙ last.one-leaf in
        let z : 0 < leaves_on h l = omega arith in
        record {
          one_domain = one;
          holds_all = own_at l 0 z ∙ last-holds-all (level_at_lem l) rows last.one-leaf ∙ sym (listed_at l);
          borrows_none = borrowed_at l 0 z ∙ last-borrows-none (level_at_lem l) rows last.one-leaf;
          no_box =
              handed-box d ls h packs l 0 (there l 0 z)
              ∙ last-no-box (level_at_lem l) rows last.one-leaf d last.no-boxes
              (all-at BoxesFit ls l no_level fit (omega arith));
        }

    pub held-rules : LoadedTree d n h
    held-rules = record {
      first_lists_all = listed_at 0 ∙ tests.first-all;
      each_rows = λ l m. has-rows l (tests.rows l (omega (arith, levels-are)));
      each_next = has-next;
      some_level = omega (arith, levels-are, tests.some);
      few_levels = omega (arith, levels-are, tests.few);
      last_single = is-single;
      counted = handed-counted d ls h packs;
      none_beyond = handed-beyond d ls h packs;
    }

-- ---- its depths
held-depths : (d n : ℕ) (ls : List Level) (h : Handed) → PackedIn d ls h → SoundTree d n ls → TreeDepths h
held-depths d n ls h packs tests =
    let l = length ls - 1 in
    let last = tests.last l (omega (arith, tests.some)) in
    let some : 0 < length (get_or ls l no_level).leaves = omega (arith, last.one-leaf) in
    depths-handed d ls h packs tests.depths some (all-at (λ f. f.depth ≡ 0) (get_or ls l no_level).leaves 0 no_leaf last.at-root some)

-- ---- the lists after an accepted call that writes the tree ls, with its counts
module _ (s : Settings) (n : ℕ) (ls : List Level) (old : TreeLists) (h : sound s n ls ≡ true) where
  abbrev out : Handed
  out = handed (record { number = 0; place = 0; value = counts_of ls }) (tree_lists_after accepted ls old)

  tests : SoundTree s.dimension n ls
  tests = sound-tree s n ls h

  packs : PackedIn s.dimension ls out
  packs = lists-hold s.dimension ls old tests.few tests.boxed

  -- THE LAWS: where its bounds and covers are values of the format
  pub loaded-rules : All BoxesFit ls → LoadedTree s.dimension n (handed (record { number = 0; place = 0; value = counts_of ls }) (tree_lists_after accepted ls old))
  loaded-rules fit = held-rules s.dimension ls out packs n tests fit

  -- and whatever they are
  pub loaded-depths : TreeDepths (handed (record { number = 0; place = 0; value = counts_of ls }) (tree_lists_after accepted ls old))
  loaded-depths = held-depths s.dimension n ls out packs tests

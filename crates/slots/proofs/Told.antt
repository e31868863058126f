-- The whole outcome of each exported call: of one with a short slot, and of one that found its slot long enough, from the outcome of
-- the call behind it. Assumes nothing.
-- Holds: told-short, told-long, told-value, quotas-short, quotas-long, sample-cover-short, sample-short, sample-long, tree-short,
--   tree-long, build-short, build-long, slots-short, slots-long, store-short, store-tree-short, store_long, load-short,
--   load-long, add-short, add-long, retire-told, close-short, close-long
use mathlib.Core.Path.{◌≡◌, refl, subst, ap, ◌∙◌}
use mathlib.Core.List.{List, [], ◌∷◌}
use Prim.Native.Nat.{ℕ, ◌≤◌, ◌<◌}
use native.Mathlib.Omega.{arith}
use lib.ListN.{length, set}
use lib.Ieee.{Float}
use Rattle.lists.specs.Lists.{put}
use Rattle.lists.proofs.Put.{set-put, put-zero}
use Rattle.definition.specs.Tree.{Settings}
use Rattle.definition.specs.Packed.{Counts}
use Rattle.definition.specs.Refusals.{Verdict}
use Rattle.definition.specs.Outcome.{Answer, Shared, Sampled, TreeLists, written, RoomAfter, build_call, build_answer, build_lists, RecordLists, build_records}
use Rattle.definition.specs.Table.{Table, add_answer_lem, add_table, retire_answer_lem, retire_table}
use Rattle.definition.specs.Slots.{slots_call, slots_answer, slots_lists, slots_records}
use Rattle.definition.specs.Closing.{close_answer, close_table, close_rename}
use Rattle.stored.specs.Outcome.{write_answer, write_output, load_answer, load_lists_lem}
use Rattle.quotas.specs.Outcome.{SeatsShared}
use Rattle.sampling.specs.Outcome.{RowsSampled}
use Rattle.slots.specs.Slots.{value_slot, quota_slot, sample_slot, cover_slot, placed_slot, build_slot, counts_in, head_written, table_from}
use Rattle.slots.specs.Told.{Told, QuotasTold, SampleTold, TreeTold, BuildTold, SlotsTold, StoreTold, LoadTold, AddTold, RetireTold, CloseTold}
use Rattle.slots.proofs.Slots.{slot-short, slot-long, slot-written, room-short, room-long, number-long}

-- ---- number and slot
module _ {A B : Type 0} (n : ℕ) (values : Answer A → List B) (slot : List B) where
  pub told-short : (a : Answer A) → length slot < n → Told n values slot slot 11 a
  told-short a h = record { number_is = slot-short n slot _ _ h; slot_is = slot-short n slot _ _ h }

  -- a is what the call behind it answers
  pub told-long : (slot' : List B) (k : ℕ) (a b : Answer A) → n ≤ length slot → k ≡ a.number → slot' ≡ put slot 0 (values a) → a ≡ b
      → Told n values slot slot' k b
  told-long slot' k a b h e w g =
      record {
        number_is = number-long n slot a b k h e g;
        slot_is = slot-written n slot (values b) slot' h (w ∙ ap (λ (x : Answer A). put slot 0 (values x)) g);
      }

-- one value
pub told-value : {A : Type 0} (slot : List A) (k : ℕ) (x : A) (a b : Answer A) → 1 ≤ length slot → k ≡ a.number → x ≡ a.value → a ≡ b
    → Told 1 value_slot slot (set slot 0 x) k b
told-value slot k x a b h e f g =
    told-long 1 value_slot slot _ k a b h e (set-put slot 0 x (omega arith) ∙ ap (λ (y : _). put slot 0 (y ∷ [])) f) g

-- ---- the quotas
module _ (sizes : List ℕ) (wanted : ℕ) (out wholes slot : List ℕ) where
  pub quotas-short : length slot < 2 → QuotasTold sizes wanted out out wholes wholes slot slot 11
  quotas-short h =
      record { told = told-short 2 _ slot _ h; output = slot-short 2 slot _ _ h; wholes_free = room-short 2 slot _ _ h }

  -- b is what is told, and a what the call behind it answers
  pub quotas-long : (out' wholes' slot' : List ℕ) (a b : Answer Shared) → 2 ≤ length slot → SeatsShared sizes wanted out out' wholes wholes' a
      → b ≡ a → slot' ≡ put slot 0 (quota_slot b) → QuotasTold sizes wanted out out' wholes wholes' slot slot' b.number
  quotas-long out' wholes' slot' a b h o e w =
      record {
        told = told-long 2 _ slot slot' b.number b _ h refl w (e ∙ o.answers);
        output = slot-long 2 slot _ _ _ h o.output;
        wholes_free = room-long 2 slot _ _ _ h o.wholes_free;
      }

-- ---- sampling

-- one entry, written to its slot
set-written : {A : Type 0} (l : List A) (x : A) → 1 ≤ length l → set l 0 x ≡ written (x ∷ []) l
unfolding written
set-written l x h = set-put l 0 x (omega arith) ∙ put-zero l (x ∷ [])

module _ (d : ℕ) (cs : List Float) (wanted seed : ℕ) (out : List ℕ) (floats : List Float) (wholes : List ℕ) (cover : List Float) (slot : List ℕ) where
  pub sample-cover-short : length cover < 1 → SampleTold d cs wanted seed out out floats floats wholes wholes cover cover slot slot 11
  sample-cover-short h =
      record {
        number_is = slot-short 1 cover _ _ h;
        cover_is = slot-short 1 cover _ _ h;
        slot_is = slot-short 1 cover _ _ h;
        output = slot-short 1 cover _ _ h;
        floats_free = room-short 1 cover _ _ h;
        wholes_free = room-short 1 cover _ _ h;
      }

  module _ (h : 1 ≤ length cover) where
    pub sample-short : length slot < 2 → SampleTold d cs wanted seed out out floats floats wholes wholes cover cover slot slot 11
    sample-short g =
        record {
          number_is = slot-long 1 cover _ _ _ h (slot-short 2 slot _ _ g);
          cover_is = slot-long 1 cover _ _ _ h (slot-short 2 slot _ _ g);
          slot_is = slot-long 1 cover _ _ _ h (slot-short 2 slot _ _ g);
          output = slot-long 1 cover _ _ _ h (slot-short 2 slot _ _ g);
          floats_free = room-long 1 cover _ _ _ h (room-short 2 slot _ _ g);
          wholes_free = room-long 1 cover _ _ _ h (room-short 2 slot _ _ g);
        }

    -- b is what is told, and a what the call behind it answers
    pub sample-long : (out' : List ℕ) (floats' : List Float) (wholes' slot' : List ℕ) (a b : Answer Sampled) → 2 ≤ length slot
        → RowsSampled d cs wanted seed out out' floats floats' wholes wholes' a → b ≡ a
        → slot' ≡ put slot 0 (b.place ∷ b.value.rows ∷ []) → SampleTold d cs wanted seed out out' floats floats' wholes wholes' cover (set cover 0 b.value.cover) slot slot' b.number
    sample-long out' floats' wholes' slot' a b g o e w =
        record {
          number_is = slot-long 1 cover _ _ _ h (number-long 2 slot b _ b.number g refl (e ∙ o.answers));
          cover_is = slot-long 1 cover _ _ _ h (slot-long 2 slot _ _ _ g (set-written cover b.value.cover h ∙ ap (λ (u : List Float). written u cover) (ap cover_slot (e ∙ o.answers))));
          slot_is = slot-long 1 cover _ _ _ h (slot-written 2 slot _ slot' g (w ∙ ap (put slot 0) (ap sample_slot (e ∙ o.answers))));
          output = slot-long 1 cover _ _ _ h (slot-long 2 slot _ _ _ g o.output);
          floats_free = room-long 1 cover _ _ _ h (room-long 2 slot _ _ _ g o.floats_free);
          wholes_free = room-long 1 cover _ _ _ h (room-long 2 slot _ _ _ g o.wholes_free);
        }

-- ---- a build
module _ (v : Verdict) (due : Answer Counts) (due-lists : TreeLists) (due-records : RecordLists) (old : TreeLists) (floats : List Float) (wholes : List ℕ) (records : RecordLists) (slot : List ℕ) where
  pub tree-short : length slot < 10 → TreeTold v due due-lists due-records old old floats floats wholes wholes records records slot slot 11
  tree-short h =
      record {
        told = told-short 10 _ slot _ h;
        lists = slot-short 10 slot _ _ h;
        records = slot-short 10 slot _ _ h;
        floats_free = room-short 10 slot _ _ h;
        wholes_free = room-short 10 slot _ _ h;
      }

  pub tree-long : (new : TreeLists) (floats' : List Float) (wholes' : List ℕ) (records' : RecordLists) (slot' : List ℕ) (k : ℕ) (a : Answer Counts) → 10 ≤ length slot → k ≡ a.number
      → slot' ≡ put slot 0 (build_slot a) → a ≡ due → new ≡ due-lists → records' ≡ due-records → RoomAfter v floats floats' → RoomAfter v wholes wholes'
      → TreeTold v due due-lists due-records old new floats floats' wholes wholes' records records' slot slot' k
  tree-long new floats' wholes' records' slot' k a h m w answers lists taken free-floats free-wholes =
      record {
        told = told-long 10 build_slot slot slot' k a _ h m w answers;
        lists = slot-long 10 slot _ _ _ h lists;
        records = slot-long 10 slot _ _ _ h taken;
        floats_free = room-long 10 slot _ _ _ h free-floats;
        wholes_free = room-long 10 slot _ _ _ h free-wholes;
      }

-- over all points
module _ (cs : List Float) (old : TreeLists) (floats : List Float) (wholes : List ℕ) (records : RecordLists) (slot : List ℕ) where
  pub build-short : (s : Settings) → length slot < 10 → BuildTold s cs old old floats floats wholes wholes records records slot slot 11
  build-short s h = tree-short _ _ _ _ old floats wholes records slot h

  -- s is the code's settings, and t the same from the numbers of the call
  pub build-long : (new : TreeLists) (floats' : List Float) (wholes' : List ℕ) (records' : RecordLists) (slot' : List ℕ) (k : ℕ) (a : Answer Counts) (s t : Settings) → s ≡ t
      → 10 ≤ length slot → k ≡ a.number → slot' ≡ put slot 0 (build_slot a)
      → a ≡ build_answer s cs old floats wholes records → new ≡ build_lists s cs old floats wholes records → records' ≡ build_records s cs old floats wholes records
      → RoomAfter (build_call s cs old floats wholes records) floats floats' → RoomAfter (build_call s cs old floats wholes records) wholes wholes'
      → BuildTold t cs old new floats floats' wholes wholes' records records' slot slot' k
  build-long new floats' wholes' records' slot' k a s t e h m w answers lists taken free-floats free-wholes =
      subst (λ (u : Settings). BuildTold u cs old new floats floats' wholes wholes' records records' slot slot' k) e
      (tree-long _ _ _ _ old floats wholes records slot new floats' wholes' records' slot' k a h m w answers lists taken free-floats free-wholes)

-- over the live slots of a table
module _ (x : Table) (old : TreeLists) (floats : List Float) (wholes : List ℕ) (records : RecordLists) (slot : List ℕ) where
  pub slots-short : (s : Settings) → length slot < 10 → SlotsTold s x old old floats floats wholes wholes records records slot slot 11
  slots-short s h = tree-short _ _ _ _ old floats wholes records slot h

  pub slots-long : (new : TreeLists) (floats' : List Float) (wholes' : List ℕ) (records' : RecordLists) (slot' : List ℕ) (k : ℕ) (a : Answer Counts) (s t : Settings) → s ≡ t
      → 10 ≤ length slot → k ≡ a.number → slot' ≡ put slot 0 (build_slot a)
      → a ≡ slots_answer s x old floats wholes records → new ≡ slots_lists s x old floats wholes records → records' ≡ slots_records s x old floats wholes records
      → RoomAfter (slots_call s x old floats wholes records) floats floats' → RoomAfter (slots_call s x old floats wholes records) wholes wholes'
      → SlotsTold t x old new floats floats' wholes wholes' records records' slot slot' k
  slots-long new floats' wholes' records' slot' k a s t e h m w answers lists taken free-floats free-wholes =
      subst (λ (u : Settings). SlotsTold u x old new floats floats' wholes wholes' records records' slot slot' k) e
      (tree-long _ _ _ _ old floats wholes records slot new floats' wholes' records' slot' k a h m w answers lists taken free-floats free-wholes)

-- ---- the writer
module _ (s : Settings) (cs : List Float) (tree : List ℕ) (l : TreeLists) (file slot : List ℕ) where
  pub store-short : length slot < 2 → StoreTold s cs tree l file file slot slot 11
  store-short h = record { told = told-short 2 _ slot _ h; output = slot-short 2 slot _ _ h }

  -- a slot of counts that is too short
  pub store-tree-short : (slot' : List ℕ) → 2 ≤ length slot → length tree < 10 → slot' ≡ put slot 0 (0 ∷ 0 ∷ []) → StoreTold s cs tree l file file slot slot' 11
  store-tree-short slot' h g w =
      record {
        told = told-long 2 placed_slot slot slot' 11 (record { number = 11; place = 0; value = 0 }) _ h refl w (slot-short 10 tree _ _ g);
        output = slot-long 2 slot _ _ _ h (slot-short 10 tree _ _ g);
      }

  -- u is the code's settings, and c its counts
  pub store_long : (file' slot' : List ℕ) (a : Answer ℕ) (u : Settings) (c : Counts) → u ≡ s → c ≡ counts_in tree → 2 ≤ length slot → 10 ≤ length tree
      → slot' ≡ put slot 0 (placed_slot a) → a ≡ write_answer u cs c l file → file' ≡ write_output u cs c l file → StoreTold s cs tree l file file' slot slot' a.number
  store_long file' slot' a u c e f h g w answers output =
      record {
        told = told-long 2 placed_slot slot slot' a.number a _ h refl w
            (slot-long 10 tree _ _ _ g (rw (← e, ← f) answers));
        output = slot-long 2 slot _ _ _ h (slot-long 10 tree _ _ _ g (rw (← e, ← f) output));
      }

-- ---- the loader
module _ (cs : List Float) (bs : List ℕ) (old : TreeLists) (slot : List ℕ) where
  pub load-short : (s : Settings) → length slot < 10 → LoadTold s cs bs old old slot slot 11
  load-short s h =
      record {
        told = told-short 10 _ slot _ h;
        level_points = slot-short 10 slot _ _ h;
        internals = slot-short 10 slot _ _ h;
        domains = slot-short 10 slot _ _ h;
        boxes = slot-short 10 slot _ _ h;
        borrowed = slot-short 10 slot _ _ h;
      }

  -- s is the code's settings, and t the same from the numbers of the call
  pub load-long : (new : TreeLists) (slot' : List ℕ) (k : ℕ) (a : Answer Counts) (s t : Settings) → s ≡ t → 10 ≤ length slot → k ≡ a.number → slot' ≡ put slot 0 (build_slot a)
      → a ≡ load_answer s cs bs old → new.level_points ≡ (load_lists_lem s cs bs old).level_points → new.internals ≡ (load_lists_lem s cs bs old).internals
      → new.domains ≡ (load_lists_lem s cs bs old).domains → new.boxes ≡ (load_lists_lem s cs bs old).boxes → new.borrowed ≡ (load_lists_lem s cs bs old).borrowed
      → LoadTold t cs bs old new slot slot' k
  load-long new slot' k a s t e h m w answers level_points internals domains boxes borrowed =
      subst (λ (u : Settings). LoadTold u cs bs old new slot slot' k) e
      record {
        told = told-long 10 build_slot slot slot' k a _ h m w answers;
        level_points = slot-long 10 slot _ _ _ h level_points;
        internals = slot-long 10 slot _ _ _ h internals;
        domains = slot-long 10 slot _ _ _ h domains;
        boxes = slot-long 10 slot _ _ _ h boxes;
        borrowed = slot-long 10 slot _ _ _ h borrowed;
      }

-- ---- the table's edits, whose head is two numbers
module _ (d : ℕ) (head flags : List ℕ) (cs point : List Float) (slot : List ℕ) where
  pub add-short : length slot < 2 → AddTold d head head flags flags cs cs point slot slot 11
  add-short h =
      record {
        told = told-short 2 _ slot _ h;
        head_is = slot-short 2 slot _ _ h;
        flags_are = slot-short 2 slot _ _ h;
        coordinates_are = slot-short 2 slot _ _ h;
      }

  -- a is the answer of the call behind it, and t' the table that it leaves
  pub add-long : (flags' : List ℕ) (cs' : List Float) (slot' : List ℕ) (a : Answer ℕ) (t' : Table) → 2 ≤ length slot → slot' ≡ put slot 0 (placed_slot a)
      → a ≡ add_answer_lem d (table_from head flags cs) point → t' ≡ add_table d (table_from head flags cs) point → flags' ≡ t'.flags → cs' ≡ t'.coordinates
      → AddTold d head (head_written t'.head head) flags flags' cs cs' point slot slot' a.number
  add-long flags' cs' slot' a t' h w answers table f c =
      record {
        told = told-long 2 placed_slot slot slot' a.number a _ h refl w answers;
        head_is = slot-long 2 slot _ _ _ h (ap (λ (x : Table). head_written x.head head) table);
        flags_are = slot-long 2 slot _ _ _ h (f ∙ ap (λ (x : Table). x.flags) table);
        coordinates_are = slot-long 2 slot _ _ _ h (c ∙ ap (λ (x : Table). x.coordinates) table);
      }

pub retire-told : (d : ℕ) (head flags flags' : List ℕ) (cs : List Float) (slot : ℕ) (a : Answer ℕ) (t' : Table)
    → a ≡ retire_answer_lem d (table_from head flags cs) slot → t' ≡ retire_table d (table_from head flags cs) slot → flags' ≡ t'.flags
    → RetireTold d head (head_written t'.head head) flags flags' cs slot a.number
retire-told d head flags flags' cs slot a t' answers table f =
    record {
      number_is = ap (λ (x : Answer ℕ). x.number) answers;
      head_is = ap (λ (x : Table). head_written x.head head) table;
      flags_are = f ∙ ap (λ (x : Table). x.flags) table;
    }

module _ (d : ℕ) (head flags : List ℕ) (cs : List Float) (rename slot : List ℕ) where
  pub close-short : length slot < 2 → CloseTold d head head flags flags cs cs rename rename slot slot 11
  close-short h =
      record {
        told = told-short 2 _ slot _ h;
        head_is = slot-short 2 slot _ _ h;
        flags_are = slot-short 2 slot _ _ h;
        coordinates_are = slot-short 2 slot _ _ h;
        rename_is = slot-short 2 slot _ _ h;
      }

  -- as for adding
  pub close-long : (flags' : List ℕ) (cs' : List Float) (rename' slot' : List ℕ) (a : Answer ℕ) (t' : Table) → 2 ≤ length slot → slot' ≡ put slot 0 (placed_slot a)
      → a ≡ close_answer d (table_from head flags cs) rename → t' ≡ close_table d (table_from head flags cs) rename → rename' ≡ close_rename d (table_from head flags cs) rename
      → flags' ≡ t'.flags → cs' ≡ t'.coordinates → CloseTold d head (head_written t'.head head) flags flags' cs cs' rename rename' slot slot' a.number
  close-long flags' cs' rename' slot' a t' h w answers table renamed f c =
      record {
        told = told-long 2 placed_slot slot slot' a.number a _ h refl w answers;
        head_is = slot-long 2 slot _ _ _ h (ap (λ (x : Table). head_written x.head head) table);
        flags_are = slot-long 2 slot _ _ _ h (f ∙ ap (λ (x : Table). x.flags) table);
        coordinates_are = slot-long 2 slot _ _ _ h (c ∙ ap (λ (x : Table). x.coordinates) table);
        rename_is = slot-long 2 slot _ _ _ h renamed;
      }

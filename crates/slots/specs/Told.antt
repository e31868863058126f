-- The complete outcome of each exported call, as one record. What is named with a prime is as the call leaves it. A slot that is too
-- short is refused with 11 before anything else, and then nothing is written. Definitions only.
use Rattle.std.specs.Prelude.{ℕ, ◌≡◌, List, Float}
use Rattle.definition.specs.Tree.{Settings}
use Rattle.definition.specs.Packed.{Counts}
use Rattle.definition.specs.Refusals.{Verdict}
use Rattle.definition.specs.Outcome.{Answer, TreeLists, RecordLists, written, RoomAfter, quota_call, quota_answer, quota_output, sample_call, sample_answer, sample_output, build_call, build_answer, build_lists, build_records}
use Rattle.definition.specs.Table.{Table, add_answer_lem, add_table, retire_answer_lem, retire_table}
use Rattle.definition.specs.Slots.{slots_call, slots_answer, slots_lists, slots_records}
use Rattle.definition.specs.Closing.{close_answer, close_table, close_rename}
use Rattle.stored.specs.Outcome.{write_answer, write_output, load_answer, load_lists_lem}
use Rattle.slots.specs.Slots.{unless_short, number_after, slot_after, slot_first, unless_either, quota_slot, sample_slot, cover_slot, placed_slot, build_slot, counts_in, head_written, table_from}

-- What a call returns, and its slot of n entries: `values` are those of an answer.
pub record Told {A B : Type 0} (n : ℕ) (values : Answer A → List B) (slot slot' : List B) (returned : ℕ) (answer : Answer A) : Type 0 where
  pub number_is : returned ≡ number_after n slot answer
  pub slot_is : slot' ≡ slot_after n slot (values answer)

-- the quotas
pub record QuotasTold (sizes : List ℕ) (wanted : ℕ) (out out' wholes wholes' slot slot' : List ℕ) (returned : ℕ) : Type 0 where
  pub told : Told 2 quota_slot slot slot' returned (quota_answer sizes wanted out wholes)
  pub output : out' ≡ unless_short 2 slot out (quota_output sizes wanted out wholes)
  pub wholes_free : RoomAfter (slot_first 2 slot (quota_call sizes out wholes)) wholes wholes'

-- sampling, with its two slots: where either is too short, both stay as they were
pub record SampleTold (d : ℕ) (cs : List Float) (wanted seed : ℕ) (out out' : List ℕ) (floats floats' : List Float) (wholes wholes' : List ℕ) (cover cover' : List Float)
    (slot slot' : List ℕ) (returned : ℕ) : Type 0 where
  pub number_is : returned ≡ unless_either cover slot 11 (sample_answer d cs wanted seed out floats wholes).number
  pub cover_is : cover' ≡ unless_either cover slot cover (written (cover_slot (sample_answer d cs wanted seed out floats wholes)) cover)
  pub slot_is : slot' ≡ unless_either cover slot slot (written (sample_slot (sample_answer d cs wanted seed out floats wholes)) slot)
  pub output : out' ≡ unless_either cover slot out (sample_output d cs wanted seed out floats wholes)
  pub floats_free : RoomAfter (slot_first 1 cover (slot_first 2 slot (sample_call d cs wanted seed out floats wholes))) floats floats'
  pub wholes_free : RoomAfter (slot_first 1 cover (slot_first 2 slot (sample_call d cs wanted seed out floats wholes))) wholes wholes'

-- A build that has this verdict, and to which this answer, these five lists and these lists of the records are due.
pub record TreeTold (v : Verdict) (due : Answer Counts) (due-lists : TreeLists) (due-records : RecordLists) (old new : TreeLists) (floats floats' : List Float)
    (wholes wholes' : List ℕ) (records-old records-new : RecordLists) (slot slot' : List ℕ) (returned : ℕ) : Type 0 where
  pub told : Told 10 build_slot slot slot' returned due
  pub lists : new ≡ unless_short 10 slot old due-lists
  pub records : records-new ≡ unless_short 10 slot records-old due-records
  pub floats_free : RoomAfter (slot_first 10 slot v) floats floats'
  pub wholes_free : RoomAfter (slot_first 10 slot v) wholes wholes'

-- the build over all points, by either engine
abbrev pub BuildTold : Settings → List Float → TreeLists → TreeLists → List Float → List Float → List ℕ → List ℕ → RecordLists → RecordLists → List ℕ → List ℕ → ℕ → Type 0
BuildTold s cs old new floats floats' wholes wholes' records-old records-new slot slot' returned =
    TreeTold (build_call s cs old floats wholes records-old) (build_answer s cs old floats wholes records-old) (build_lists s cs old floats wholes records-old)
    (build_records s cs old floats wholes records-old) old new floats floats' wholes wholes' records-old records-new slot slot' returned

-- the build over the live slots of a table
abbrev pub SlotsTold : Settings → Table → TreeLists → TreeLists → List Float → List Float → List ℕ → List ℕ → RecordLists → RecordLists → List ℕ → List ℕ → ℕ → Type 0
SlotsTold s t old new floats floats' wholes wholes' records-old records-new slot slot' returned =
    TreeTold (slots_call s t old floats wholes records-old) (slots_answer s t old floats wholes records-old) (slots_lists s t old floats wholes records-old)
    (slots_records s t old floats wholes records-old) old new floats floats' wholes wholes' records-old records-new slot slot' returned

-- The writer, whose caller hands the counts back as the slot `tree` of a build or a load. One that is too short is refused next, with 11.
pub record StoreTold (s : Settings) (cs : List Float) (tree : List ℕ) (l : TreeLists) (file file' slot slot' : List ℕ) (returned : ℕ) : Type 0 where
  pub told : Told 2 placed_slot slot slot' returned (unless_short 10 tree (record { number = 11; place = 0; value = 0 }) (write_answer s cs (counts_in tree) l file))
  pub output : file' ≡ unless_short 2 slot file (unless_short 10 tree file (write_output s cs (counts_in tree) l file))

-- the loader
pub record LoadTold (s : Settings) (cs : List Float) (bs : List ℕ) (old new : TreeLists) (slot slot' : List ℕ) (returned : ℕ) : Type 0 where
  pub told : Told 10 build_slot slot slot' returned (load_answer s cs bs old)
  pub level_points : new.level_points ≡ unless_short 10 slot old.level_points (load_lists_lem s cs bs old).level_points
  pub internals : new.internals ≡ unless_short 10 slot old.internals (load_lists_lem s cs bs old).internals
  pub domains : new.domains ≡ unless_short 10 slot old.domains (load_lists_lem s cs bs old).domains
  pub boxes : new.boxes ≡ unless_short 10 slot old.boxes (load_lists_lem s cs bs old).boxes
  pub borrowed : new.borrowed ≡ unless_short 10 slot old.borrowed (load_lists_lem s cs bs old).borrowed

-- Adding to a table whose head is two numbers where the caller keeps them. A slot that is too short leaves everything as it was.
pub record AddTold (d : ℕ) (head head' flags flags' : List ℕ) (cs cs' point : List Float) (slot slot' : List ℕ) (returned : ℕ) : Type 0 where
  pub told : Told 2 placed_slot slot slot' returned (add_answer_lem d (table_from head flags cs) point)
  pub head_is : head' ≡ unless_short 2 slot head (head_written (add_table d (table_from head flags cs) point).head head)
  pub flags_are : flags' ≡ unless_short 2 slot flags (add_table d (table_from head flags cs) point).flags
  pub coordinates_are : cs' ≡ unless_short 2 slot cs (add_table d (table_from head flags cs) point).coordinates

-- retiring: no place is named and nothing is answered, so there is no slot
pub record RetireTold (d : ℕ) (head head' flags flags' : List ℕ) (cs : List Float) (retiring returned : ℕ) : Type 0 where
  pub number_is : returned ≡ (retire_answer_lem d (table_from head flags cs) retiring).number
  pub head_is : head' ≡ head_written (retire_table d (table_from head flags cs) retiring).head head
  pub flags_are : flags' ≡ (retire_table d (table_from head flags cs) retiring).flags

-- Closing its gaps; its slot has the place and the new slot count. A slot that is too short leaves everything as it was.
pub record CloseTold (d : ℕ) (head head' flags flags' : List ℕ) (cs cs' : List Float) (rename rename' slot slot' : List ℕ) (returned : ℕ) : Type 0 where
  pub told : Told 2 placed_slot slot slot' returned (close_answer d (table_from head flags cs) rename)
  pub head_is : head' ≡ unless_short 2 slot head (head_written (close_table d (table_from head flags cs) rename).head head)
  pub flags_are : flags' ≡ unless_short 2 slot flags (close_table d (table_from head flags cs) rename).flags
  pub coordinates_are : cs' ≡ unless_short 2 slot cs (close_table d (table_from head flags cs) rename).coordinates
  pub rename_is : rename' ≡ unless_short 2 slot rename (close_rename d (table_from head flags cs) rename)

-- The build over slots right before closing and the one right after it, at the same settings and with the same lent lists: both are refused with the
-- same number, or the second hands back the lists of the first with each row renamed by the list that closing wrote, and the same records of its
-- cuts. Assumes nothing.
use mathlib.Core.Path.{◌≡◌, sym, ap, ◌∙◌, subst}
use mathlib.Core.List.{List}
use Prim.Native.Nat.{ℕ}
use lib.ListN.{length, get_or}
use lib.Ieee.{Float}
use Rattle.lists.specs.Lists.{total}
use Rattle.definition.specs.Tree.{Settings}
use Rattle.definition.specs.Packed.{Counts, packed_level_points, packed_borrowed}
use Rattle.definition.specs.Refusals.{Refusal, accepted, refused}
use Rattle.definition.specs.Outcome.{RecordLists, Answer, TreeLists}
use Rattle.definition.specs.Table.{Table}
use Rattle.definition.specs.Slots.{slot_levels, slots_call, slots_answer, slots_lists, slots_records}
use Rattle.definition.specs.Closing.{close_verdict, close_table, close_rename}
use Rattle.renaming_laws.specs.Renaming.{ListsRenamed}
use Rattle.table_laws.proofs.Renamed.{AnswerRenamed}
use Rattle.table_laws.proofs.RowCounts.{slots_counts}
use Rattle.table_laws.proofs.Kept.{closed-keeps}
use Rattle.closing.specs.Outcome.{Closed}
use Rattle.table_build.specs.Outcome.{BuiltSlots}

-- What two builds over slots hand back, the second over the slots renamed by the list: the same number and counts (with 10 the renamed place); level
-- points and internals renamed as far as the row counts say, borrowed rows as far as the tree has them; all else is the same, both lists of the records
-- among it. A refused one writes to no list.
pub record KeptLists (s : Settings) (t : Table) (rename : List ℕ) (old before after : TreeLists) (floats : List Float) (wholes : List ℕ)
    (records-old records-before records-after : RecordLists) (answer said : Answer Counts) : Type 0 where
  pub answers : AnswerRenamed s.dimension (λ i. get_or rename i 0) answer said
  pub lists : slots_call s t old floats wholes records-old ≡ accepted
      → ListsRenamed (λ i. get_or rename i 0) (total answer.value.rows) (total answer.value.rows) (length (packed_borrowed (slot_levels s t))) before after
  pub records : records-after ≡ records-before
  pub untouched : (r : Refusal) → slots_call s t old floats wholes records-old ≡ refused r
      → (before ≡ old) × (after ≡ old) × (records-before ≡ records-old) × (records-after ≡ records-old)

module _ (s : Settings) (t : Table) (rename : List ℕ) (e : close_verdict s.dimension t (length rename) ≡ accepted)
    (old : TreeLists) (floats : List Float) (wholes : List ℕ) (records : RecordLists) where
  abbrev list : List ℕ
  list = close_rename s.dimension t rename

  abbrev first : TreeLists
  first = slots_lists s t old floats wholes records

  abbrev second : TreeLists
  second = slots_lists s (close_table s.dimension t rename) old floats wholes records

  abbrev first_records : RecordLists
  first_records = slots_records s t old floats wholes records

  abbrev second_records : RecordLists
  second_records = slots_records s (close_table s.dimension t rename) old floats wholes records

  abbrev answered : Answer Counts
  answered = slots_answer s t old floats wholes records

  abbrev again : Answer Counts
  again = slots_answer s (close_table s.dimension t rename) old floats wholes records

  -- over the definitions
  kept : KeptLists s t list old first second floats wholes records first_records second_records answered again
  kept =
      let k = closed-keeps s t rename e old floats wholes records in
      let Renamed : ℕ → ℕ → Type 0 = λ points internals. ListsRenamed (λ i. get_or list i 0) points internals (length (packed_borrowed (slot_levels s t))) first second in
      record {
        answers = k.answer;
        lists =
            λ ok. let n = slots_counts s t old floats wholes records ok in
            subst (λ (m : ℕ). Renamed m (total answered.value.rows)) n.0 (subst (λ (m : ℕ). Renamed (length (packed_level_points (slot_levels s t))) m) n.1 (k.lists ok));
        records = k.records;
        untouched = k.untouched;
      }

  -- what the contracts promise
  pub close-keeps : {t' : Table} {rename' : List ℕ} {closed : Answer ℕ} → Closed s.dimension t t' rename rename' closed
      → {before after : TreeLists} {floats' floats'' : List Float} {wholes' wholes'' : List ℕ} {records-before records-after : RecordLists} {answer said : Answer Counts}
      → BuiltSlots s t old before floats floats' wholes wholes' records records-before answer
      → BuiltSlots s t' old after floats floats'' wholes wholes'' records records-after said
      → KeptLists s t rename' old before after floats wholes records records-before records-after answer said
  close-keeps {t'} {rename'} c {before} {after} {records-before = b-records} {records-after = o-records} {answer = answer} {said = said} b o =
      let Kept : List ℕ → TreeLists → TreeLists → RecordLists → RecordLists → Answer Counts → Answer Counts → Type 0 = λ l x y p q m n. KeptLists s t l old x y floats wholes records p q m n in
      subst (λ (l : List ℕ). Kept l before after b-records o-records answer said) (sym c.renamed)
      (subst (λ (x : TreeLists). Kept list x after b-records o-records answer said) (sym b.lists)
      (subst (λ (y : TreeLists). Kept list first y b-records o-records answer said) (sym (o.lists ∙ ap (λ (u : Table). slots_lists s u old floats wholes records) c.table))
      (subst (λ (p : RecordLists). Kept list first second p o-records answer said) (sym b.records)
      (subst (λ (q : RecordLists). Kept list first second first_records q answer said) (sym (o.records ∙ ap (λ (u : Table). slots_records s u old floats wholes records) c.table))
      (subst (λ (m : Answer Counts). Kept list first second first_records second_records m said) (sym b.answers)
      (subst (λ (n : Answer Counts). Kept list first second first_records second_records answered n) (sym (o.answers ∙ ap (λ (u : Table). slots_answer s u old floats wholes records) c.table)) kept))))))

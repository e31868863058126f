-- `call_records::Fields::answer_agrees` meets its contract. Assumes nothing.
use mathlib.Core.Path.{◌≡◌, sym, ap, ◌∙◌}
use mathlib.Core.Bool.{true≢false}
use mathlib.Core.List.{List}
use Prim.Native.Nat.{ℕ}
use lib.ListN.{drop}
use lib.Pointwise.{bytes_decides}
use Rattle.definition.specs.Packed.{Counts}
use Rattle.definition.specs.Outcome.{Answer, zero_counts}
use Rattle.refusal.proofs.Told.{seen}
use Rattle.tree_answer.specs.Answers.{counts_given, tree_answer_lem}
use Rattle.tree_answer.proofs.Zeros.{no-counts}
use Rattle.formats.specs.Bytes.{numbers_at}
use Rattle.call_records.specs.declared.fields.Fields.{Fields}
use Rattle.call_records.proofs.Widths.{behind}
use Rattle.call_records.proofs.fields.Fields.answer_agrees.Goals as goal
use Rattle.call_records.proofs.fields.Fields.answer_agrees.Goals.{After-eq-then-eq, then-branch+in_ok-number, else-branch, then-branch-tree+in_ok-counts, else-branch-tree}

module _ (c : After-eq-then-eq) where
  abbrev bs : List ℕ
  bs = c.args.self.now.rest.now

  -- the counts that are told are those of the answer
  told : counts_given c.of-report.result.value ≡ (tree_answer_lem c.args.answer).value
  told = ap (λ (a : Answer Counts). a.value) (seen _ counts_given zero_counts c.args.answer c.of-report.result (λ x z. no-counts x z.0 z.1.0 z.1.1) c.of-report.ensures)

  -- number and place, the levels and the rows were read: the rows are those told, and what is left
  read : (drop 25 bs ≡ c.if-branch-tree.self.rest.now) × (numbers_at 4 0 (drop 9 bs) ≡ c.of-report.result.value.rows)
  read =
      elim c.if-branch-tree.branch [
        | then-branch-tree+in_ok-counts w ↦
            elim c.if-branch.branch [
              | then-branch+in_ok-number v ↦
                  let front = c.in_ok-report_agrees.ensures.left v.if-branch.true in
                  let levels : c.if-branch.self.rest.now ≡ drop 9 bs = ap (λ (f : Fields). f.rest.now) v.self-is ∙ behind 5 4 bs _ _ front v.in_ok-number.ensures.number.2 in
                  let rows : c.if-branch-tree.self.rest.now ≡ drop 25 bs = ap (λ (f : Fields). f.rest.now) w.self-is ∙ behind 9 16 bs _ _ levels w.in_ok-counts.ensures.2 in (
                    sym rows,
                    ap (numbers_at 4 0) (sym levels) ∙ sym w.in_ok-counts.ensures.1
                        ∙ (bytes_decides _ _).0 (sym w.eq.ensures ∙ sym w.value-is ∙ c.if-eq.true),
                  )
              | else-branch v ↦ absurd (true≢false (sym w.if-branch-tree.true ∙ v.value-is ∙ v.if-branch.false))
            ]
        | else-branch-tree w ↦ absurd (true≢false (sym c.if-eq.true ∙ w.value-is ∙ w.if-branch-tree.false))
      ]

pub returns-in_ok-counts-2-clause-rows : goal.returns-in_ok-counts-2-clause-rows
returns-in_ok-counts-2-clause-rows c same = (read c).1 ∙ ap (λ (n : Counts). n.rows) (told c)

pub returns-in_ok-counts-2-clause-domains : goal.returns-in_ok-counts-2-clause-domains
returns-in_ok-counts-2-clause-domains c same =
    ap (numbers_at 4 0) (read c).0 ∙ sym c.in_ok-counts-2.ensures.1 ∙ (bytes_decides _ _).0 (sym c.eq-then-eq.ensures ∙ same)
    ∙ ap (λ (n : Counts). n.domains) (told c)

pub returns-in_ok-counts-2-clause-left : goal.returns-in_ok-counts-2-clause-left
returns-in_ok-counts-2-clause-left c same = behind 25 16 (bs c) _ _ (sym (read c).0) c.in_ok-counts-2.ensures.2

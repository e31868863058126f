-- `overlaps::Borrowing::lend` meets its contract. Assumes nothing.
use mathlib.Core.Path.{◌≡◌, sym, ap, ◌∙◌}
use lib.ListN.{length, take}
use lib.Seq.{length-take-le}
use Rattle.lists.specs.Lists.{put}
use Rattle.overlaps.proofs.Lends.{small-lists, distinct-codes, distinct-rows, distinct-length, distinct-inside}
use native.Mathlib.Omega.{arith}
use borrow.Author.Rules.{rules}
use Rattle.overlaps.proofs.Borrowing.lend.Goals as goal

pub write_rows-requires : goal.write_rows-requires
write_rows-requires c = let s = c in
    let a = s.args in
    let f = c.order_once-count in (
      omega (arith, f.ensures.1.short, s.requires.3),
      distinct-inside a.codes.now (take f.result f.new.codes) (length a.active.now) f.ensures.1 s.requires.4,
    )

pub returns : goal.returns
returns c = let s = c in
    let a = s.args in
    let v = a.self.now in
    let f = c.order_once-count in
    let N = take f.result f.new.codes in
    let e : length N ≡ f.result = length-take-le f.result f.new.codes (omega (
      arith,
      f.ensures.0,
    )) in record {
      same = search rules;
      number = λ ls H. sym e ∙ distinct-length v.count (length a.active.now) s.requires.0 a.codes.now ls H N f.ensures.1;
      rows = λ ls H. c.write_rows.ensures ∙ ap (put v.borrowed.now v.at) (distinct-rows v.count (length
          a.active.now) s.requires.0 a.codes.now ls H N f.ensures.1 a.active.now);
      columns = λ ls H. c.write_columns.ensures ls
          (small-lists v.count (length a.active.now) s.requires.0 a.codes.now ls H) (distinct-codes v.count (length a.active.now) s.requires.0 a.codes.now ls H N f.ensures.1);
      most = f.ensures.0;
    }

-- `middle_row::narrow` meets its contract. Assumes nothing.
use borrow.Author.Rules.{rules}
use Rattle.lists.proofs.All.{all-imp}
use Rattle.argsort.proofs.Orders.{row_inside}
use mathlib.Core.Bool.{Bool, true, false}
use Prim.Native.Nat.{ℕ}
use lib.ListN.{get_or}
use Rattle.middle_row.specs.Middle.{side_in}
use Rattle.middle_row.proofs.Rounds.{round-finite, round-inside, round-found, round-low, round-high}
use Rattle.middle_row.proofs.narrow.Goals as goal

pub count_before-c-requires : goal.count_before-c-requires
count_before-c-requires c = let r = c.requires in (round-finite r, round-inside r)

pub returns-then-c-k : goal.returns-then-c-k
returns-then-c-k c = round-found c.requires _ c.count_before-c.ensures c.if-c-k.true

pub keep_front-count-requires : goal.keep_front-count-requires
keep_front-count-requires c = let r = c.requires in all-imp _ _ _ (λ i f. let a = row_inside c.args.column.points.dimensions c.args.column.points.coordinates.now c.args.column.axis i f in let b = round-inside r in search rules) (round-finite r)

pub returns-then-k-c : goal.returns-then-k-c
returns-then-k-c c = let n = c.count_before-c.ensures in
    let k = c.keep_front-count.ensures in
    let p = get_or c.args.rows.now c.args.at 0 in
    let low : ℕ → Bool = side_in c.args.column p true in
    round-low c.requires _ n
    c.if-k-c.true _ _ (k.number low (λ i r q. search rules)) (k.rows low (λ i r q. search rules))

pub keep_front-count-requires-2 : goal.keep_front-count-requires-2
keep_front-count-requires-2 c = let r = c.requires in all-imp _ _ _ (λ i f. let a = row_inside c.args.column.points.dimensions c.args.column.points.coordinates.now c.args.column.axis i f in let b = round-inside r in search rules) (round-finite r)

pub returns : goal.returns
returns c = let n = c.count_before-c.ensures in
    let k = c.keep_front-count-2.ensures in
    let p = get_or c.args.rows.now c.args.at 0 in
    let high : ℕ → Bool = side_in c.args.column p false in
    round-high c.requires _ n
    c.if-c-k.false c.if-k-c.false _ _ (k.number high (λ i r q. search rules)) (k.rows high (λ i r q. search rules))

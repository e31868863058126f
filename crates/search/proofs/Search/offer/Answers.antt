-- `search::Search::offer` meets its contract. Assumes nothing.
use mathlib.Core.Path.{sym, ap, ◌∙◌}
use Rattle.definition.specs.Keys.{before}
use Rattle.kept_laws.specs.First.{place_key}
use Rattle.search.proofs.Offering.{offer-itself, offer-more, offer-left, offer-full, offered-good}
use Rattle.search.proofs.Search.offer.Goals as goal

pub returns-then-other-row : goal.returns-then-other-row
returns-then-other-row c = let a = c.args in offer-itself a.self a.row a.other a.near.now a.far.now a.count c.if-other-row.true

pub distance_sq-value-requires : goal.distance_sq-value-requires
distance_sq-value-requires c = let a = c.args in
    let o = c.requires.3 in
    (o.asked.whose.inside, offered-good a.self a.row a.other a.near.now a.far.now a.count c.requires.0 o)

pub returns-then-count-self : goal.returns-then-count-self
returns-then-count-self c = let a = c.args in
    let f = c.insert in
    offer-more a.self a.row a.other a.near.now a.far.now a.count c.if-other-row.false a.position c.requires.1 c.distance_sq-value.result c.distance_sq-value.ensures
    f.result f.ensures.place f.new.near f.new.far f.ensures.lists.0 f.ensures.lists.1 c.if-count-self.true

pub returns-then-comes_before : goal.returns-then-comes_before
returns-then-comes_before c = let a = c.args in
    let f = c.insert-then-comes_before in
    offer-full a.self a.row a.other a.near.now a.far.now a.count c.if-other-row.false a.position c.requires.1 c.distance_sq-value.result c.distance_sq-value.ensures
    f.result f.ensures.place f.new.near f.new.far f.ensures.lists.0 f.ensures.lists.1 c.if-count-self.false c.requires.2
    (ap (before (place_key c.distance_sq-value.result a.position)) (sym c.kept.ensures) ∙ sym c.comes_before.ensures ∙ c.if-comes_before.true)

pub returns-else-comes_before : goal.returns-else-comes_before
returns-else-comes_before c = let a = c.args in
    offer-left a.self a.row a.other a.near.now a.far.now a.count c.if-other-row.false a.position c.requires.1 c.distance_sq-value.result c.distance_sq-value.ensures
    c.if-count-self.false c.requires.2
    (ap (before (place_key c.distance_sq-value.result a.position)) (sym c.kept.ensures) ∙ sym c.comes_before.ensures ∙ c.if-comes_before.false)

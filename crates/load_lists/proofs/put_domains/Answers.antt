-- `load_lists::put_domains` meets its contract. The loop's invariant: the domains before the cursor are written. Assumes nothing.
use mathlib.Core.Path.{◌≡◌, refl, ◌∙◌}
use Prim.Native.Nat.{◌+◌, ◌-◌, ◌<◌}
use native.Mathlib.Omega.{arith}
use borrow.Author.Rules.{rules}
use Rattle.load_lists.specs.Places.{packed_in}
use Rattle.load_lists.proofs.DomainsLoop.{domains-start, domains-end, domains-written, domain-stands, domain-room, domains-next}
use Rattle.load_lists.proofs.put_domains.Goals as goal

pub loop-init : goal.loop-init
loop-init c = let a = c.args in
    let all : a.m - 0 ≡ a.m = omega arith in
    (rw all (domains-start a.dimensions a.coarse a.m a.bytes.now a.c (packed_in a.lists.now a.dimensions) c.requires.dimensions_bound.1), search rules, refl)

pub put_domain-next-requires : goal.put_domain-next-requires
put_domain-next-requires c = let v = c.loop.invariant.0 in
    let some : 0 < c.args.m - c.loop.counter = omega (arith, c.loop-test.true) in
    record {
      dimensions_bound = (c.requires.dimensions_bound.0, domain-stands v refl refl c.requires.room some);
      room = domain-room v refl refl c.requires.room some;
    }

pub loop-preserved : goal.loop-preserved
loop-preserved c = let w = c.put_domain-next.ensures in
    let some : 0 < c.args.m - c.loop.counter = omega (arith, c.loop-test.true) in
    let one_less : c.args.m - (c.loop.counter + 1) ≡ c.args.m - c.loop.counter - 1 = omega arith in
    (rw one_less (domains-next c.loop.invariant.0 refl refl c.requires.room some _ _ w.next.0 w.next.1 w.written), search rules, w.kept ∙ c.loop.invariant.2)

pub returns : goal.returns
returns c = let v = c.loop.invariant.0 in
    let none : c.args.m - c.loop.counter ≡ 0 = omega (arith, c.loop-test.false) in
    record {
      same = c.loop.invariant.1;
      kept = c.loop.invariant.2;
      next = domains-end v none;
      written = domains-written v none;
    }

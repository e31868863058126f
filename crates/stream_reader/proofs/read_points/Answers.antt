-- `stream_reader::read_points` meets its contract. Assumes nothing.
use Rattle.stream_reader.proofs.Records.{Reading, begun, spot, place_fits, reading-cut, reading-full, reading-more, reading-counted, reading-done}
use Rattle.config.specs.Params.{settings_are}
use Rattle.std.specs.Slice.Iter.{chunks_rest, chunks_size}
use Rattle.std.specs.Iterator.Adapters.{enumerate_source, enumerate_count}
use Rattle.bytes_in.proofs.Bytes.{record-room}
use Rattle.bytes_in.proofs.Fields.{lent_many, floats-back}
use Rattle.formats.specs.Stream.{point_mark, point_size_lem, stream_points, job}
use lib.ListN.{length, take}
use mathlib.Core.Path.{◌≡◌, refl, sym, ap, ◌∙◌}
use Prim.Native.Nat.{ℕ, ◌+◌, ◌*◌, ◌/◌, min, ◌≤◌}
use borrow.Author.Rules.{rules}
use native.Mathlib.Omega.{arith}
use Rattle.stream_reader.proofs.read_points.Goals as goal

pub loop-n-init : goal.loop-n-init
loop-n-init c =
    let a = c.args in
    let it : c.into_iter-n-iterator.result ≡ c.enumerate-n-items.result = c.into_iter-n-iterator.ensures.into_iter_gives in
    let source = ap enumerate_source it ∙ c.enumerate-n-items.ensures.source in (
      search rules,
      search rules,
      ap chunks_size source ∙ c.chunks.ensures.size ∙ c.point_size-size.ensures,
      rw (ap chunks_rest source ∙ c.chunks.ensures.rest, ap enumerate_count it ∙ c.enumerate-n-items.ensures.count)
          (begun (settings_are a.settings) a.records.now a.coordinates.now c.requires.room),
      refl,
    )

-- the state before the record number n, and what is known of that record
state : (c : goal.Then-not-record_at) → Reading (settings_are c.args.settings) c.args.records.now (chunks_rest (enumerate_source c.loop-n.n-iterator)) c.loop-n.coordinates c.in-Some.n
state c = rw c.in-Some.ensures.steps.1 c.loop-n.invariant.3

pub overflow_mul-result : goal.overflow_mul-result
overflow_mul-result c = rw c.point_size-size.ensures (omega (arith, place_fits c.in-Some.n c.args.settings.dimensions (state c).few c.requires.axes.1))

pub overflow_add-result : goal.overflow_add-result
overflow_add-result c = rw c.point_size-size.ensures (omega (arith, place_fits c.in-Some.n c.args.settings.dimensions (state c).few c.requires.axes.1))

pub returns-then-not-record_at-clause-same : goal.returns-then-not-record_at-clause-same
returns-then-not-record_at-clause-same c =
    let next = c.in-Some.ensures.steps.0 in
    rw c.point_size-size.ensures (reading-cut (state c) _ _ next.1.0 (next.1.1 ∙ ap (λ (k : ℕ). min k (length (chunks_rest (enumerate_source c.loop-n.n-iterator)))) c.loop-n.invariant.2) next.1.2
    (rw c.point_size-size.ensures at (sym c.record_at.ensures ∙ c.if-not-record_at.true)) _ (omega arith))

pub returns-then-n-eq-MOST_POINTS-clause-same : goal.returns-then-n-eq-MOST_POINTS-clause-same
returns-then-n-eq-MOST_POINTS-clause-same c =
    let next = c.in-Some.ensures.steps.0 in
    let r : Reading (settings_are c.args.settings) c.args.records.now (chunks_rest (enumerate_source c.loop-n.n-iterator)) c.loop-n.coordinates c.in-Some.n = rw c.in-Some.ensures.steps.1 c.loop-n.invariant.3 in
    reading-full r _ _ next.1.0 (next.1.1 ∙ ap (λ (k : ℕ). min k (length (chunks_rest (enumerate_source c.loop-n.n-iterator)))) c.loop-n.invariant.2) next.1.2
    (rw c.point_size-size.ensures at (sym c.record_at.ensures ∙ c.if-not-record_at.false)) c.if-n-eq-MOST_POINTS.true

-- a whole record, and place for its point
module _ (c : goal.Else-n-eq-MOST_POINTS) where
  before : Reading (settings_are c.args.settings) c.args.records.now (chunks_rest (enumerate_source c.loop-n.n-iterator)) c.loop-n.coordinates c.in-Some.n
  before = rw c.in-Some.ensures.steps.1 c.loop-n.invariant.3

  row_fits : c.in-Some.n * c.args.settings.dimensions + c.args.settings.dimensions ≤ 3 * stream_points
  row_fits = spot c.in-Some.n c.args.settings.dimensions (omega (arith, before.few, c.if-n-eq-MOST_POINTS.false)) c.requires.axes.1

pub overflow_mul-row : goal.overflow_mul-row
overflow_mul-row c = omega (arith, row_fits c)

pub overflow_add-row : goal.overflow_add-row
overflow_add-row c = omega (arith, row_fits c)

pub offset_bounds-coordinates-row : goal.offset_bounds-coordinates-row
offset_bounds-coordinates-row c = omega (arith, row_fits c)

pub slice_bounds-read_fields-end : goal.slice_bounds-read_fields-end
slice_bounds-read_fields-end c = omega (arith, row_fits c, (before c).room)

pub read_fields-requires : goal.read_fields-requires
read_fields-requires c =
    let d = c.args.settings.dimensions in
    let r : Reading (settings_are c.args.settings) c.args.records.now (chunks_rest (enumerate_source c.loop-n.n-iterator)) c.loop-n.coordinates c.in-Some.n = rw c.in-Some.ensures.steps.1 c.loop-n.invariant.3 in
    let fits = spot c.in-Some.n d (omega (arith, r.few, c.if-n-eq-MOST_POINTS.false)) c.requires.axes.1 in
    let long = record-room point_mark (point_size_lem d) 0 c.in-Some.record.now (omega arith) (rw c.point_size-size.ensures at (sym c.record_at.ensures ∙ c.if-not-record_at.false)) in
    omega (arith, lent_many c.loop-n.coordinates (c.in-Some.n * d) d (omega (arith, fits, r.room)))

pub loop-n-preserved : goal.loop-n-preserved
loop-n-preserved c =
    let d = c.args.settings.dimensions in
    let next = c.in-Some.ensures.steps.0 in
    let r : Reading (settings_are c.args.settings) c.args.records.now (chunks_rest (enumerate_source c.loop-n.n-iterator)) c.loop-n.coordinates c.in-Some.n = rw c.in-Some.ensures.steps.1 c.loop-n.invariant.3 in
    let fits = spot c.in-Some.n d (omega (arith, r.few, c.if-n-eq-MOST_POINTS.false)) c.requires.axes.1 in (
      search rules,
      search rules,
      next.0 ∙ c.loop-n.invariant.2,
      rw (c.in-Some.ensures.steps.2, sym c.in-Some.ensures.steps.1)
          (reading-more r _ _ next.1.0 (next.1.1 ∙ ap (λ (k : ℕ). min k (length (chunks_rest (enumerate_source c.loop-n.n-iterator)))) c.loop-n.invariant.2) next.1.2
          c.requires.axes.1 (rw c.point_size-size.ensures at (sym c.record_at.ensures ∙ c.if-not-record_at.false)) c.if-n-eq-MOST_POINTS.false _
          (floats-back (c.in-Some.n * d) d _ _ c.loop-n.coordinates (omega (arith, fits, r.room)) c.read_fields.ensures) (search rules)),
      search rules,
    )

-- behind the last record
module _ (c : goal.In-None) where
  after : Reading (settings_are c.args.settings) c.args.records.now (chunks_rest (enumerate_source c.loop-n.n-iterator)) c.loop-n.coordinates (enumerate_count c.loop-n.n-iterator)
  after = c.loop-n.invariant.3

  counted : length c.args.records.now / point_size_lem c.args.settings.dimensions ≡ enumerate_count c.loop-n.n-iterator
  counted = reading-counted after c.in-None.ensures.steps.0.1.0

pub returns-clause-same : goal.returns-clause-same
returns-clause-same c =
    rw c.point_size-size.ensures (ap (λ (k : ℕ). job (settings_are c.args.settings) (take (k * c.args.settings.dimensions) c.loop-n.coordinates)) (counted c)
    ∙ reading-done (after c) c.in-None.ensures.steps.0.1.0)

pub returns-clause-few : goal.returns-clause-few
returns-clause-few c = rw c.point_size-size.ensures (omega (arith, counted c, (after c).few))

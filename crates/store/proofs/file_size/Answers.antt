-- `store::file_size` meets its contract. Assumes nothing.
use native.Mathlib.Omega.{arith}
use Rattle.store.proofs.Lengths.{points-most, boxes-most}
use Rattle.store.proofs.file_size.Goals as goal

pub overflow_mul-front : goal.overflow_mul-front
overflow_mul-front c = record { fits = omega (arith, points-most c.requires c.point_size.result c.point_size.ensures) }

pub overflow_add-front : goal.overflow_add-front
overflow_add-front c = record { fits = omega (arith, points-most c.requires c.point_size.result c.point_size.ensures) }

pub overflow_add-result : goal.overflow_add-result
overflow_add-result c = record { fits = omega (arith, points-most c.requires c.point_size.result c.point_size.ensures) }

pub overflow_add-result-2 : goal.overflow_add-result-2
overflow_add-result-2 c = record { fits = omega (arith, points-most c.requires c.point_size.result c.point_size.ensures) }

pub overflow_add-result-3 : goal.overflow_add-result-3
overflow_add-result-3 c = record { fits = omega (arith, points-most c.requires c.point_size.result c.point_size.ensures) }

pub overflow_mul-result : goal.overflow_mul-result
overflow_mul-result c = record { fits = omega (arith, boxes-most c.requires c.box_width-bounds.result c.box_width-bounds.ensures) }

pub overflow_add-result-4 : goal.overflow_add-result-4
overflow_add-result-4 c = record { fits = omega (arith, points-most c.requires c.point_size.result c.point_size.ensures, boxes-most c.requires c.box_width-bounds.result c.box_width-bounds.ensures) }

pub returns : goal.returns
returns c = rw (c.box_width-bounds.ensures, c.point_size.ensures)

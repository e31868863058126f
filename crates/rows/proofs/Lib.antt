-- Laws of rows in use.
-- Good: one row of good rows (good-at, good-mem, row-fits), what all of them have (good-inside, good-finite, good-place, good-small,
-- good-once, good-good), and parts of them (good-keep, good-first, good-other).
-- AllRows: all rows of a list of finite coordinates are good (all-rows-good).
pub mod Good
pub mod AllRows

-- A level at a place of a file: its rows, and where its domains stand. Assumes nothing.
-- Holds: inside, level-stands, level-within, rows-many, rows-read, rows-within, domains-stand, domains-after, domains-room,
--   level-written
use mathlib.Core.Path.{◌≡◌, sym, ap, ◌∙◌}
use mathlib.Core.Bool.{true, ◌&&◌}
use mathlib.Core.List.{List}
use Prim.Native.Nat.{ℕ, ◌+◌, ◌*◌, ◌≤◌}
use native.Mathlib.Omega.{arith}
use borrow.Author.Tests.{leb-true}
use lib.Dec.{leb, eqb}
use lib.ListN.{length, drop, length-drop}
use lib.Seq.{drop-drop}
use Rattle.lists.proofs.Tests.{and-fst, and-snd}
use Rattle.packed.specs.Reading.{Packed}
use Rattle.formats.specs.Bytes.{number_size, numbers_at, marked_by, whole}
use Rattle.stored.specs.File.{level_mark}
use Rattle.stored.specs.Stored.{counts_size, first_count_lem, second_count, one_domain, domains_place, level_in, after_leaves, after_level}
use Rattle.tree_tests.specs.Whole.{leaves_whole, level_whole}
use Rattle.file_levels.specs.declared.LevelHead.{LevelHead}
use Rattle.file_levels.specs.Levels.{HeadHere}
use Rattle.load_lists.specs.declared.Cursor.{Cursor}
use Rattle.load_lists.specs.Places.{ahead, domains_at, level_at_lem, Room, Written}
use Rattle.bytes_in.proofs.Fields.{length-numbers-at, numbers-here}

-- before the domains of a level with this head
abbrev pub inside : Cursor → LevelHead → Cursor
inside c head = record { at = head.next; points = c.points + head.rows; own = c.own; borrowed = c.borrowed; row = c.row }

module _ (d : ℕ) (file : List ℕ) (c : Cursor) (h : level_whole d (ahead c file) ≡ true) where
  abbrev here : List ℕ
  here = drop c.at file

  both : (whole level_mark (domains_place here) here && leaves_whole d (one_domain here) (second_count here) (drop (domains_place here) here)) ≡ true
  unfolding level_whole
  both = h

  -- the record stands whole, and lies within the file
  pub level-stands : whole level_mark (domains_place here) here ≡ true
  level-stands = and-fst (whole level_mark (domains_place here) here) (leaves_whole d (one_domain here) (second_count here) (drop (domains_place here) here)) both

  pub level-within : c.at + domains_place (drop c.at file) ≤ length file
  level-within =
      omega (
        arith,
        leb-true (domains_place here) (length here) (and-fst (leb (domains_place here) (length here)) (marked_by level_mark here) level-stands),
        length-drop c.at file,
      )

  -- its head, as it is read
  module _ {head : LevelHead} (read : HeadHere (drop c.at file) c.at head) where
    pub rows-many : head.rows ≡ length (level_at_lem d c file).points
    unfolding level_in
    rows-many = read.rows ∙ sym (length-numbers-at (first_count_lem here) counts_size here)

    pub rows-read : numbers_at head.rows head.rows_at file ≡ (level_at_lem d c file).points
    unfolding level_in
    rows-read = rw (read.rows, read.rows_at) (numbers-here c.at file (first_count_lem here) counts_size)

    pub rows-within : head.rows_at + number_size * head.rows ≤ length file
    rows-within = omega (arith, level-within, read.rows, read.rows_at)

    there : ahead (inside c head) file ≡ drop (domains_place here) here
    there = ap (λ (n : ℕ). drop n file) read.next ∙ sym (drop-drop (domains_place here) c.at file)

    pub domains-stand : leaves_whole d (eqb head.domains 1) head.domains (ahead (inside c head) file) ≡ true
    domains-stand =
        rw (there, read.domains)
        (and-snd (whole level_mark (domains_place here) here) (leaves_whole d (one_domain here) (second_count here) (drop (domains_place here) here)) both)

    domains-are : domains_at d (eqb head.domains 1) head.domains (inside c head) file ≡ (level_at_lem d c file).leaves
    unfolding level_in
    domains-are = rw (there, read.domains)

    pub domains-after : after_leaves d (eqb head.domains 1) head.domains (ahead (inside c head) file) ≡ after_level d (ahead c file)
    unfolding after_level
    domains-after = rw (there, read.domains)

    pub domains-room : {p : Packed} → Room (level_at_lem d c file).leaves c p → Room (domains_at d (eqb head.domains 1) head.domains (inside c head) file) (inside c head) p
    domains-room m = rw domains-are (record { internals = m.internals; domains = m.domains; boxes = m.boxes; borrowed = m.borrowed })

    pub level-written : {r : Cursor} {p q : Packed} → Written (domains_at d (eqb head.domains 1) head.domains (inside c head) file) (inside c head) r p q → Written (level_at_lem d c file).leaves c r p q
    level-written w₀ =
        let w = rw domains-are at w₀ in
        record { own_end = w.own_end; row_end = w.row_end; borrowed_end = w.borrowed_end; internals = w.internals; domains = w.domains; boxes = w.boxes; borrowed = w.borrowed }

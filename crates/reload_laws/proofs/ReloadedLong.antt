-- How long what `ddm_reload` prints can be, for every stream and file: a tree that is loaded is over the job's points. Assumes nothing.
use mathlib.Core.Path.{◌≡◌, refl, sym, ap, ◌∙◌}
use Prim.Native.Nat.{ℕ, ◌≤◌}
use native.Mathlib.Omega.{arith}
use mathlib.Core.Bool.{Bool, true, false, cond}
use mathlib.Core.List.{List, ◌++◌, map, append_assoc}
use lib.ListN.{length, take, drop, take-append-drop, length-append}
use lib.Seq.{drop_at}
use lib.Dec.{ltb}
use lib.Ieee.{Float}
use Rattle.lists.specs.Lists.{from, joined}
use Rattle.definition.specs.Tree.{Settings, point_count}
use Rattle.definition.specs.Refusals.{Refusal, Verdict, accepted, refused}
use Rattle.definition.specs.Outcome.{TreeLists}
use Rattle.formats.specs.Bytes.{mark_bytes, number_size, number_bytes}
use Rattle.formats.specs.Stream.{Job, job, broken, stream_points, settings_size, settings_in, settings_bytes, job_in}
use Rattle.formats.specs.Printout.{refusal_text}
use Rattle.stored.specs.File.{head_mark, head_bytes_lem, point_bytes, front_bytes_lem}
use Rattle.stored.specs.Stored.{count_in, points_in, tree_in, well_formed}
use Rattle.stored.specs.Outcome.{own_tests, same_settings_lem, same_points_lem, load_verdict}
use Rattle.stored.specs.Programs.{most_file, blank_lists, reloaded_by, reloaded_for, reloaded}
use Rattle.tree_tests.proofs.AllRows.{same-is}
use Rattle.tree_tests.proofs.Lengths.{length-settings}
use Rattle.stored_laws.proofs.Fields.{field_back}
use Rattle.stored_laws.proofs.ReadBack.{buildable-passed}
use Rattle.stored_laws.proofs.WellFormed.{well-formed-sound, well-formed-writable}
use Rattle.definition_laws.proofs.Accepted.{second-accepts}
use Rattle.stored_laws.proofs.Loaded.{file_tests, tests-passed}
use Rattle.stream_laws.specs.Sizes.{JobLimits, WithinLimits, most_bytes}
use Rattle.stream_laws.proofs.Stream.{job-limits, job-points}
use Rattle.stream_laws.proofs.Long.{refusal-long}
use Rattle.reload_laws.proofs.SoundLong.{sound-long}

-- the count in bytes that begin with the head, whatever the settings are
count-in-head : (s : Settings) (n : ℕ) (bs rest : List ℕ) → n ≤ stream_points → bs ≡ head_bytes_lem s n ++ rest → count_in bs ≡ n
unfolding head_bytes_lem
count-in-head s n bs rest few e =
    let front = mark_bytes head_mark ++ settings_bytes s in
    let wide : length front ≡ settings_size = length-append (mark_bytes head_mark) (settings_bytes s) ∙ length-settings s in
    field_back number_size n settings_size bs rest (omega arith)
    (ap (drop settings_size) (e ∙ append_assoc front (number_bytes n) rest) ∙ drop_at front (number_bytes n ++ rest) settings_size wide)

-- ---- a load that is accepted
module _ (s : Settings) (cs : List Float) (bs : List ℕ) (old : TreeLists) (limits : JobLimits s cs) (ok : load_verdict s cs bs old ≡ accepted) where
  abbrev n : ℕ
  n = point_count s.dimension cs

  has : (well_formed bs ≡ true) × (same_settings_lem s bs ≡ true) × (same_points_lem s cs bs ≡ true)
  unfolding load_verdict
  has = tests-passed s cs bs (second-accepts (own_tests s cs old) (file_tests s cs bs) ok)

  -- the file counts the job's points
  count_is : count_in bs ≡ n
  unfolding front_bytes_lem
  count_is =
      let points = joined (map (point_bytes s.dimension cs) (from 0 n)) in
      let front = front_bytes_lem s cs in
      let rest = drop (length front) bs in
      let begins : bs ≡ front ++ rest = sym (take-append-drop (length front) bs) ∙ ap (λ (x : List ℕ). x ++ rest) (sym (same-is front (take (length front) bs) has.2)) in
      count-in-head s n bs (points ++ rest) (job-points s cs limits) (begins ∙ append_assoc (head_bytes_lem s n) points rest)

  loaded-long : length (reloaded_by accepted bs) ≤ most_bytes
  unfolding reloaded_by
  loaded-long =
      let axes = (buildable-passed (settings_in bs) (points_in bs) (well-formed-writable bs has.0).takes).axes_few in
      sound-long (settings_in bs) (count_in bs) (tree_in bs) (well-formed-sound bs has.0) (omega (arith, count_is, job-points s cs limits)) axes

-- ---- whatever comes of a job and a file
refused-long : (r : Refusal) (bs : List ℕ) → length (reloaded_by (refused r) bs) ≤ most_bytes
unfolding reloaded_by
refused-long r bs = omega (arith, refusal-long r)

pub reloaded-for-long : (j : Job) (bs : List ℕ) → WithinLimits j → length (reloaded_for j bs) ≤ most_bytes
unfolding reloaded_for
reloaded-for-long (broken r) bs limits = omega (arith, refusal-long r)
reloaded-for-long (job s cs) bs limits = both (ltb most_file (length bs)) (any (load_verdict s cs bs (blank_lists s cs)) refl)
  where
    any : (v : Verdict) → load_verdict s cs bs (blank_lists s cs) ≡ v → length (reloaded_by v bs) ≤ most_bytes
    any accepted e = loaded-long s cs bs (blank_lists s cs) limits e
    any (refused r) e = refused-long r bs

    both : (b : Bool) → length (reloaded_by (load_verdict s cs bs (blank_lists s cs)) bs) ≤ most_bytes
        → length (cond b (refusal_text (record { number = 17; place = 0 })) (reloaded_by (load_verdict s cs bs (blank_lists s cs)) bs)) ≤ most_bytes
    both true h = omega (arith, refusal-long (record { number = 17; place = 0 }))
    both false h = h

-- THE LAW: nothing longer than `most_bytes`
pub reloaded-long : (stream bs : List ℕ) → length (reloaded stream bs) ≤ most_bytes
unfolding reloaded
reloaded-long stream bs = reloaded-for-long (job_in stream) bs (job-limits stream)

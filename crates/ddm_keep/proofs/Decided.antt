-- What is kept of the bytes read is what is kept of the stream. Assumes nothing.
-- Holds: front-replies, line-room, line-fits, line-tells, told
use mathlib.Core.Path.{◌≡◌, refl, ap, subst, ◌∙◌}
use Prim.Native.Nat.{ℕ, ◌≤◌}
use native.Mathlib.Omega.{arith}
use native.Mathlib.Nat.{zero-add}
use mathlib.Core.List.{List, ◌++◌}
use lib.ListN.{length, take, drop}
use lib.Seq.{take_at}
use Rattle.std.specs.Prelude.{OnOk, Result, Ok, Err, Option}
use Rattle.std.specs.Io.KnownBytes.{Appends}
use Rattle.lists.proofs.Put.{put-zero}
use Rattle.formats.specs.Printout.{refusal_text}
use Rattle.stored.specs.Programs.{Kept, file, nothing, kept}
use Rattle.stream_laws.specs.Sizes.{decisive}
use Rattle.stream_laws.proofs.Long.{refusal-long}
use Rattle.reload_laws.proofs.FrontDecides.{front_kept}
use Rattle.bytes_out.specs.declared.writer.Writer.{Writer}
use Rattle.bytes_out.specs.Writing.{Takes, Appends as Wrote}
use Rattle.refusal.specs.declared.Refusal.{Refusal}
use Rattle.refusal.specs.Refusals.{as_refusal}
use Rattle.keep.specs.Keeping.{Found}
use Rattle.program_input.specs.declared.Front.{Front}
use Rattle.program_input.specs.Input.{front_count, Stopped}
use Rattle.program_input.proofs.Fronts.{front-decides}
use Rattle.ddm_keep.specs.Output.{KeptFor, Tells, RefusalFor, RefusalAdded, Replies}

-- a reply to the bytes read is one to the input: a full list holds the decisive bytes
pub front-replies : (front : Front) (input bytes : List ℕ) (r : Result ℕ Refusal) → Stopped (length input) front
    → decisive ≤ length input → Found (kept (take (front_count front) input)) bytes r → Replies front input bytes r
front-replies front input bytes r s h = go r
  where
    decides : (k : Kept) → k ≡ kept (take (front_count front) input) → KeptFor front input k
    decides k p = front-decides kept decisive front_kept front input s h k p

    go : (r : Result ℕ Refusal) → Found (kept (take (front_count front) input)) bytes r → Replies front input bytes r
    go (Ok m) h = (h.0, decides (file (take m bytes)) h.1)
    go (Err x) h = decides (nothing (as_refusal x)) h

-- ---- the line of a refusal
module _ (refused : Refusal) (line : List ℕ) where
  abbrev text : List ℕ
  text = refusal_text (as_refusal refused)

  module _ {w : Writer} (start : w.at ≡ 0) (lent : w.bytes.now ≡ line) where
    pub line-room : 53 ≤ length line → Takes w (refusal_text (as_refusal refused))
    line-room h = record { fits = omega (arith, h, start, ap length lent, refusal-long (as_refusal refused)) }

    -- and when it is written to it, which then is `after`
    module _ {v : Writer} (a : Wrote w v (refusal_text (as_refusal refused))) (after : List ℕ) (back : after ≡ v.bytes.now) where
      line-counted : v.at ≡ length text
      line-counted = a.place ∙ rw start (zero-add (length text))

      line-is : after ≡ text ++ drop (length text) line
      line-is = rw (back, a.same, start, lent) (put-zero line text)

      pub line-fits : v.at ≤ length after
      line-fits = rw back a.within

      -- it tells the refusal, whichever stream the input is
      pub line-tells : (front : Front) (input : List ℕ) → KeptFor front input (nothing (as_refusal refused)) → RefusalFor front input (take v.at after)
      line-tells front input h stream m =
          let same : take v.at after ≡ text = rw (line-counted, line-is) (take_at text (drop (length text) line) (length text) refl) in
          subst (Tells (take v.at after)) (h stream m) same

-- ---- where it is written
pub told : {A E : Type 0} (r : Result A E) (front : Front) (input text : List ℕ) (old new : Option (List ℕ)) → RefusalFor front input text
    → OnOk r (Appends old new text) → OnOk r (RefusalAdded front input old new)
told (Ok a) front input words old new h p = (words, h, p)
told (Err e) front input words old new h p = tt

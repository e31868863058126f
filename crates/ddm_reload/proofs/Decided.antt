-- What is printed for the bytes read is what is printed for the stream and the file. Assumes nothing.
use mathlib.Core.Path.{◌≡◌, subst}
use mathlib.Core.Bool.{true≢false}
use Prim.Native.Nat.{ℕ, suc, ◌≤◌, ◌<◌}
use native.Mathlib.Omega.{arith}
use mathlib.Core.List.{List}
use lib.ListN.{length, take}
use Rattle.std.specs.Prelude.{Result, Ok, Err, IfOk, MatchResult}
use Rattle.std.specs.Result.{is_ok}
use Rattle.stored.specs.Programs.{most_file, reloaded}
use Rattle.stream_laws.specs.Sizes.{decisive}
use Rattle.reload_laws.proofs.FrontDecides.{front-reloaded, front-of-file}
use Rattle.program_input.specs.declared.Front.{Front}
use Rattle.program_input.specs.Input.{front_count, Stopped}
use Rattle.program_input.proofs.Fronts.{front-decides}
use Rattle.ddm_reload.specs.Output.{ReloadedFrom}

module _ (job : Front) (stream : List ℕ) (job-stopped : Stopped (length stream) job) (job-room : decisive ≤ length stream) where
  module _ (tree : Front) (file : List ℕ) (tree-stopped : Stopped (length file) tree) (tree-room : most_file < length file) where
    pub both-decide : (text : List ℕ) → text ≡ reloaded (take (front_count job) stream) (take (front_count tree) file) → ReloadedFrom job stream tree file text
    both-decide text p js jm bs bm =
        front-decides (λ (x : List ℕ). reloaded js x) (suc most_file) (λ n x h. front-of-file n js x (omega arith)) tree file tree-stopped (omega arith) text
        (front-decides (λ (x : List ℕ). reloaded x (take (front_count tree) file)) decisive (λ n x h. front-reloaded n x (take (front_count tree) file) h) job stream job-stopped job-room text p js jm)
        bs bm

-- ---- a value that went through `map_err` is the value before
pub ok-through : {A E F : Type 0} (r : Result A E) (m : Result A F) (P : A → Type 0) (Q : E → Type 0) → IfOk r P → MatchResult r (λ x. m ≡ Ok x) Q
    → is_ok m ≡ is_ok r → IfOk m P
ok-through (Ok y) (Ok x) P Q h cases variant = let f : y ≡ x = cc in subst P f h
ok-through (Ok y) (Err w) P Q h cases variant = tt
ok-through (Err z) (Ok x) P Q h cases variant = absurd (true≢false variant)
ok-through (Err z) (Err w) P Q h cases variant = tt

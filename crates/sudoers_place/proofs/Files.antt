-- What a step leaves of files whose paths it does not touch.
use Rattle.std.proofs.Common.{◌≡◌, ◌≤◌, inl, inr, ⊎_elim, ℕ, Bool, true, false, List, [], ◌∷◌, sym, ◌∙◌, ap, subst, arith}
use Rattle.std.specs.List.{AllByRecursion}
use Rattle.sudoers_place.specs.declared.change.Change.{Change}
use Rattle.sudoers_place.specs.declared.change.Content.{Content}
use Rattle.sudoers_place.specs.declared.change.Content.TheVariants.{Bytes, NoFile}
use Rattle.sudoers_place.specs.declared.change.Output.{Output}
use Rattle.sudoers_place.specs.declared.change.PlaceFault.{PlaceFault}
use Rattle.sudoers_place.specs.declared.change.PlaceFault.TheVariants.{SamePath, OutputNotKept, OutputChanged, NotWritten, NotRead, Changed, NotMoved, NotKept}
use Rattle.sudoers_place.specs.Disk.{HasFailed, Image, Story, IsNotIn, SameBut, GoesOn, KeepsSynced, Stands, file_with_access_of}
use Rattle.sudoers_place.specs.Placing.{paths_of, temps_of, HasContent, IsOldOrNew, placed_file}
use Rattle.sudoers_place.specs.internal.Causes.{HasCause, HasCauseInFiles, HasUnexpected}
use Rattle.sudoers_place.specs.internal.Stages.{IsAsExpected, IsInPlace, IsPlaced, IsReady, IsReadyIf, expected_content}
use Rattle.sudoers_place.proofs.Paths.{AreNotIn}

-- ---- what is ready stays so

ready_if : (is_done : Bool) (after : Content) (change : Change) (paths : List (List ℕ)) (a b : Story) → IsNotIn change.temp.items paths → IsNotIn change.path.items paths → GoesOn (SameBut paths) a b → KeepsSynced paths a b → IsReadyIf is_done after a change → IsReadyIf is_done after b change
ready_if true after change paths a b temp path goes keeps ready = tt
ready_if false NoFile change paths a b temp path goes keeps ready = tt
ready_if false (Bytes bytes) change paths a b temp path goes keeps ready = λ known.
    let was = goes.known.1 known in
    let step = goes.is_step was in
    record {
      seen = step.shown change.temp.items temp ∙ (ready was).seen ∙ sym (ap (file_with_access_of bytes.items) (step.shown change.path.items path));
      synced = keeps change.temp.items temp was (ready was).synced;
    }

pub ready_one : (change : Change) (paths : List (List ℕ)) (a b : Story) → IsNotIn change.temp.items paths → IsNotIn change.path.items paths → GoesOn (SameBut paths) a b → KeepsSynced paths a b → IsReady a change → IsReady b change
ready_one change paths a b temp path goes keeps ready = ready_if change.is_done change.after change paths a b temp path goes keeps ready

pub ready_after : (changes : List Change) (paths : List (List ℕ)) (a b : Story) → AreNotIn (temps_of changes) paths → AreNotIn (paths_of changes) paths → GoesOn (SameBut paths) a b → KeepsSynced paths a b → AllByRecursion (IsReady a) changes → AllByRecursion (IsReady b) changes
ready_after [] paths a b temps names goes keeps all = tt
ready_after (change ∷ changes) paths a b temps names goes keeps all = (ready_one change paths a b temps.0 names.0 goes keeps all.0, ready_after changes paths a b temps.1 names.1 goes keeps all.1)

-- ---- what is expected was there before

pub expected_one : (change : Change) (f g : Image) → g change.path.items ≡ f change.path.items → IsAsExpected g change → IsAsExpected f change
expected_one change f g same is = subst (HasContent (expected_content change.is_done change)) same is

pub expected_before : (changes : List Change) (paths : List (List ℕ)) (f g : Image) → AreNotIn (paths_of changes) paths → SameBut paths f g → AllByRecursion (IsAsExpected g) changes → AllByRecursion (IsAsExpected f) changes
expected_before [] paths f g apart same all = tt
expected_before (change ∷ changes) paths f g apart same all = (expected_one change f g (same change.path.items apart.0) all.0, expected_before changes paths f g apart.1 same all.1)

pub unexpected_before : (changes : List Change) (number : ℕ) (paths : List (List ℕ)) (f g : Image) → AreNotIn (paths_of changes) paths → SameBut paths f g → HasUnexpected g number changes → HasUnexpected f number changes
unexpected_before [] number paths f g apart same nowhere = nowhere
unexpected_before (change ∷ changes) number paths f g apart same (inl here) = inl (here.0, λ is. here.1 (expected_one change g f (sym (same change.path.items apart.0)) is))
unexpected_before (change ∷ changes) number paths f g apart same (inr there) = inr (unexpected_before changes number paths f g apart.1 same there)

-- what has failed has failed also from before on, and later
pub failed_since : (a b c d : Story) → a.failures ≤ b.failures → c.failures ≤ d.failures → HasFailed b c → HasFailed a d
failed_since a b c d before later failed = omega (arith, before, later, failed)

-- a fault has its cause also from before on, and later
pub cause_in_files : (fault : PlaceFault) (changes : List Change) (paths : List (List ℕ)) (a b c d : Story) → AreNotIn (paths_of changes) paths → GoesOn (SameBut paths) a b → c.failures ≤ d.failures → HasCauseInFiles changes fault b c → HasCauseInFiles changes fault a d
cause_in_files SamePath changes paths a b c d apart goes le cause = cause
cause_in_files OutputNotKept changes paths a b c d apart goes le cause = cause
cause_in_files OutputChanged changes paths a b c d apart goes le cause = cause
cause_in_files (Changed number) changes paths a b c d apart goes le cause = λ known. unexpected_before changes number paths a.seen b.seen apart (goes.is_step known).shown (cause (goes.known.0 known))
cause_in_files (NotWritten number) changes paths a b c d apart goes le cause = (cause.0, failed_since a b c d goes.counted le cause.1)
cause_in_files (NotRead number) changes paths a b c d apart goes le cause = (cause.0, failed_since a b c d goes.counted le cause.1)
cause_in_files (NotMoved number) changes paths a b c d apart goes le cause = (cause.0, failed_since a b c d goes.counted le cause.1)
cause_in_files (NotKept number) changes paths a b c d apart goes le cause = (cause.0, failed_since a b c d goes.counted le cause.1)

pub cause_of_rest : (fault : PlaceFault) (change : Change) (changes : List Change) (a b : Story) → HasCauseInFiles changes fault a b → HasCauseInFiles (change ∷ changes) fault a b
cause_of_rest SamePath change changes a b cause = cause
cause_of_rest OutputNotKept change changes a b cause = cause
cause_of_rest OutputChanged change changes a b cause = cause
cause_of_rest (Changed number) change changes a b cause = λ known. inr (cause known)
cause_of_rest (NotWritten number) change changes a b cause = (inr cause.0, cause.1)
cause_of_rest (NotRead number) change changes a b cause = (inr cause.0, cause.1)
cause_of_rest (NotMoved number) change changes a b cause = (inr cause.0, cause.1)
cause_of_rest (NotKept number) change changes a b cause = (inr cause.0, cause.1)

pub cause_of_files : (fault : PlaceFault) (changes : List Change) (output : Output) (a b : Story) → HasCauseInFiles changes fault a b → HasCause changes output fault a b
cause_of_files SamePath changes output a b cause = cause
cause_of_files OutputNotKept changes output a b cause = absurd cause
cause_of_files OutputChanged changes output a b cause = absurd cause
cause_of_files (Changed number) changes output a b cause = cause
cause_of_files (NotWritten number) changes output a b cause = cause
cause_of_files (NotRead number) changes output a b cause = cause
cause_of_files (NotMoved number) changes output a b cause = cause
cause_of_files (NotKept number) changes output a b cause = cause

-- ---- what is in place

pub placed_since : (changes : List Change) (paths : List (List ℕ)) (f g : Image) (c : Story) → AreNotIn (paths_of changes) paths → (c.is_known → SameBut paths f g) → AllByRecursion (IsPlaced g c) changes → AllByRecursion (IsPlaced f c) changes
placed_since [] paths f g c apart same all = tt
placed_since (change ∷ changes) paths f g c apart same all = ((λ known. all.0 known ∙ ap (placed_file change) (same known change.path.items apart.0)), placed_since changes paths f g c apart.1 same all.1)

pub in_place : (changes : List Change) (f : Image) (b c : Story) → b.is_known → c.is_known → AllByRecursion (IsPlaced f b) changes → AllByRecursion (λ (change : Change). Stands change.path.items (b.seen change.path.items) c) changes → AllByRecursion (IsInPlace f c) changes
in_place [] f b c was is placed stand = tt
in_place (change ∷ changes) f b c was is placed stand = ((λ i left. stand.0 is i left ∙ placed.0 was), in_place changes f b c was is placed.1 stand.1)

-- what is seen in place is so after a step that changes nothing
pub placed_still : (changes : List Change) (f : Image) (c d : Story) → GoesOn (SameBut []) c d → AllByRecursion (IsPlaced f c) changes → AllByRecursion (IsPlaced f d) changes
placed_still [] f c d goes all = tt
placed_still (change ∷ changes) f c d goes all = ((λ known. let was = goes.known.1 known in (goes.is_step was).shown change.path.items tt ∙ all.0 was), placed_still changes f c d goes all.1)

-- ---- old or new

pub all_old : (changes : List Change) (paths : List (List ℕ)) (f d e : Image) → AreNotIn (paths_of changes) paths → SameBut paths d e → AllByRecursion (IsOldOrNew f d e) changes
all_old [] paths f d e apart same = tt
all_old (change ∷ changes) paths f d e apart same = (inl (same change.path.items apart.0), all_old changes paths f d e apart.1 same)

pub all_through : (changes : List Change) (paths : List (List ℕ)) (f g d e i : Image) → AreNotIn (paths_of changes) paths → SameBut paths f g → SameBut paths d e → AllByRecursion (IsOldOrNew g e i) changes → AllByRecursion (IsOldOrNew f d i) changes
all_through [] paths f g d e i apart seen same all = tt
all_through (change ∷ changes) paths f g d e i apart seen same all = (⊎_elim (λ old. inl (old ∙ same change.path.items apart.0)) (λ new. inr (new ∙ ap (placed_file change) (seen change.path.items apart.0))) all.0, all_through changes paths f g d e i apart.1 seen same all.1)

-- Files of which it is noted whether they are in place already.
use Rattle.std.proofs.Common.{◌≡◌, ◌⊎◌, inl, inr, ℕ, Bool, true, false, List, [], ◌∷◌, ◌++◌, Option, Some, None, refl, sym, ◌∙◌, ap, subst, arith}
use Rattle.std.specs.List.{AllByRecursion}
use Rattle.sudoers_place.specs.declared.change.Change.{Change}
use Rattle.sudoers_place.specs.declared.change.Content.{Content}
use Rattle.sudoers_place.specs.declared.change.Content.TheVariants.{Bytes, NoFile}
use Rattle.sudoers_place.specs.declared.change.Output.{Output}
use Rattle.sudoers_place.specs.declared.change.PlaceFault.{PlaceFault}
use Rattle.sudoers_place.specs.declared.change.PlaceFault.TheVariants.{SamePath, OutputNotKept, OutputChanged, NotWritten, NotRead, Changed, NotMoved, NotKept}
use Rattle.sudoers_place.specs.Disk.{File, Image, Story, AreDistinct, SameBut, SameWhereSeen, GoesOn, access_of_file, file_with_access_of, free_paths}
use Rattle.sudoers_place.specs.Placing.{paths_of, temps_of, AreApart, AreSameChanges, HasCauseOfPlacing, HasContent, HasNewContent, HasNumber, HasOther, IsAsBefore, IsBeforeOrAfter, IsBeforeOrBegun, IsKeptInPlace, IsSameChange, file_with_content, placed_file, placed_file_if}
use Rattle.sudoers_place.specs.internal.Causes.{HasCause, HasUnexpected}
use Rattle.sudoers_place.specs.internal.Stages.{IsAsExpected, IsInPlace, IsPlaced, expected_content}
use Rattle.sudoers_place.proofs.Paths.{AreIn, not_in_back, not_in_both, not_in_front, not_in_none}
use Rattle.sudoers_place.proofs.Steps.{followed, loosened, same_steps}
use Rattle.sudoers_place.proofs.Free.{free_through, seen_not_free}
use Rattle.sudoers_place.proofs.Files.{all_through, failed_since, unexpected_before}
use Rattle.sudoers_place.proofs.Apart.{path_apart_rest, apart_rest}

-- ---- the same changes

pub same_changes : (changes : List Change) → AreSameChanges changes changes
same_changes [] = tt
same_changes (change ∷ changes) = (refl, same_changes changes)

same_temps : (olds news : List Change) → AreSameChanges olds news → temps_of news ≡ temps_of olds
same_temps [] [] same = refl
same_temps [] (new ∷ news) same = absurd same
same_temps (old ∷ olds) [] same = absurd same
same_temps (old ∷ olds) (new ∷ news) same =
    let here : new.temp.items ≡ old.temp.items = ap (λ (x : Change). x.temp.items) same.0 in
    let there = same_temps olds news same.1 in
    cc

same_paths : (olds news : List Change) → AreSameChanges olds news → paths_of news ≡ paths_of olds
same_paths [] [] same = refl
same_paths [] (new ∷ news) same = absurd same
same_paths (old ∷ olds) [] same = absurd same
same_paths (old ∷ olds) (new ∷ news) same =
    let here : new.path.items ≡ old.path.items = ap (λ (x : Change). x.path.items) same.0 in
    let there = same_paths olds news same.1 in
    cc

pub same_apart : (olds news : List Change) (output : Output) → AreSameChanges olds news → AreApart olds output → AreApart news output
same_apart olds news output same apart =
    let temps = sym (same_temps olds news same) in
    let paths = sym (same_paths olds news same) in
    subst (λ (l : List (List ℕ)). AreDistinct (output.path.items ∷ temps_of news ++ l)) paths (subst (λ (l : List (List ℕ)). AreDistinct (output.path.items ∷ l ++ paths_of olds)) temps apart)

-- ---- one file, and then the rest

either_one : (change : Change) (f g : Image) → g change.path.items ≡ f change.path.items → IsBeforeOrAfter f change → IsBeforeOrAfter g change
either_one change f g same has = subst (λ (file : Option File). HasContent change.before file ⊎ HasContent change.after file) (sym same) has

other_before : (changes : List Change) (number : ℕ) (f g : Image) → SameBut [] f g → HasOther g number changes → HasOther f number changes
other_before [] number f g same nowhere = nowhere
other_before (change ∷ changes) number f g same (inl here) = inl (here.0, λ has. here.1 (either_one change f g (same change.path.items tt) has))
other_before (change ∷ changes) number f g same (inr there) = inr (other_before changes number f g same there)

module _ (all : List Change) (change : Change) (rest : List Change) (split : all ≡ change ∷ rest) where
  pub same_first : (new : Change) → IsSameChange change new → AreSameChanges all (new ∷ rest)
  same_first new same = subst (λ (l : List Change). AreSameChanges l (new ∷ rest)) (sym split) (same, same_changes rest)

  apart_of_rest : (output : Output) → AreApart all output → AreApart rest output
  apart_of_rest output apart = (path_apart_rest all change rest split output.path.items apart.0, apart_rest all change rest split apart.1)

  other_of_rest : (seen : Image) (number : ℕ) → HasOther seen number rest → HasOther seen number all
  other_of_rest seen number other = subst (λ (l : List Change). HasOther seen number l) (sym split) (inr other)

  number_of_rest : (number : ℕ) → HasNumber number rest → HasNumber number all
  number_of_rest number has = subst (λ (l : List Change). HasNumber number l) (sym split) (inr has)

  -- a fault of the rest has its cause also from before on
  pub cause_later : (output : Output) (fault : PlaceFault) (a b c : Story) → GoesOn (SameBut []) a b → HasCauseOfPlacing rest output fault b c → HasCauseOfPlacing all output fault a c
  cause_later output SamePath a b c goes cause = λ apart. cause (apart_of_rest output apart)
  cause_later output OutputNotKept a b c goes cause = failed_since a b c c goes.counted (omega arith) cause
  cause_later output OutputChanged a b c goes cause = λ known has. cause (goes.known.0 known) (subst (HasContent (Bytes output.bytes)) (sym ((goes.is_step known).shown output.path.items tt)) has)
  cause_later output (Changed number) a b c goes cause = λ known. other_of_rest a.seen number (other_before rest number a.seen b.seen (goes.is_step known).shown (cause (goes.known.0 known)))
  cause_later output (NotWritten number) a b c goes cause = (number_of_rest number cause.0, failed_since a b c c goes.counted (omega arith) cause.1)
  cause_later output (NotRead number) a b c goes cause = (number_of_rest number cause.0, failed_since a b c c goes.counted (omega arith) cause.1)
  cause_later output (NotMoved number) a b c goes cause = (number_of_rest number cause.0, failed_since a b c c goes.counted (omega arith) cause.1)
  cause_later output (NotKept number) a b c goes cause = (number_of_rest number cause.0, failed_since a b c c goes.counted (omega arith) cause.1)

-- ---- what is noted

expected_if : (is_done : Bool) (old new : Change) (file : Option File) → IsSameChange old new → HasContent (expected_content is_done new) file → HasContent (expected_content is_done old) file
expected_if true old new file same has = subst (λ (x : Change). HasContent x.after file) same has
expected_if false old new file same has = subst (λ (x : Change). HasContent x.before file) same has

expected_as : (old new : Change) (seen : Image) → IsSameChange old new → IsAsExpected seen new → HasContent (expected_content new.is_done old) (seen old.path.items)
expected_as old new seen same has = expected_if new.is_done old new (seen old.path.items) same (subst (HasContent (expected_content new.is_done new)) (ap (λ (x : Change). seen x.path.items) same) has)

either_if : (is_done : Bool) (old : Change) (file : Option File) → HasContent (expected_content is_done old) file → HasContent old.before file ⊎ HasContent old.after file
either_if true old file has = inr has
either_if false old file has = inl has

pub all_either : (olds news : List Change) (seen : Image) → AreSameChanges olds news → AllByRecursion (IsAsExpected seen) news → AllByRecursion (IsBeforeOrAfter seen) olds
all_either [] [] seen same all = tt
all_either [] (new ∷ news) seen same all = absurd same
all_either (old ∷ olds) [] seen same all = absurd same
all_either (old ∷ olds) (new ∷ news) seen same all =
    let has = expected_as old new seen same.0 all.0 in
    (either_if new.is_done old (seen old.path.items) has, all_either olds news seen same.1 all.1)

all_expected_never : (changes : List Change) (seen : Image) (number : ℕ) → AllByRecursion (IsAsExpected seen) changes → HasUnexpected seen number changes → ⊥
all_expected_never [] seen number all nowhere = nowhere
all_expected_never (change ∷ changes) seen number all (inl here) = here.1 all.0
all_expected_never (change ∷ changes) seen number all (inr there) = all_expected_never changes seen number all.1 there

-- ---- each file is kept in place

has_new : (is_done : Bool) (change : Change) (was now : Option File) → HasContent (expected_content is_done change) was → now ≡ placed_file_if is_done change.after was → HasContent change.after now
has_new true change was now has is = subst (HasContent change.after) (sym is) has
has_new false change was now has is = subst (HasContent change.after) (sym is) (has_content change.after was)
  where
    has_content : (content : Content) (file : Option File) → HasContent content (file_with_content content file)
    has_content (Bytes bytes) file = refl
    has_content NoFile file = tt

has_access : (is_done : Bool) (after : Content) (was now : Option File) → now ≡ placed_file_if is_done after was → (old new : File) → was ≡ Some old → now ≡ Some new → new.access ≡ old.access
has_access true after was now is old new then later = let same : Some new ≡ Some old = sym later ∙ is ∙ then in cc
has_access false NoFile was now is old new then later = let none : None ≡ Some new = sym is ∙ later in cc
has_access false (Bytes bytes) was now is old new then later =
    let some : file_with_access_of bytes.items was ≡ Some new = sym is ∙ later in
    let access : access_of_file was ≡ new.access = ap access_of_file some in
    sym access ∙ ap access_of_file then

new_content : (x y : Change) (f g c : Image) → IsSameChange x y → SameBut [] f g → IsAsExpected f y → c y.path.items ≡ placed_file y (g y.path.items) → HasNewContent f c x
new_content x y f g c same seen expected is =
    let at : c x.path.items ≡ placed_file_if y.is_done x.after (f x.path.items) = subst (λ (z : Change). c z.path.items ≡ placed_file z (g z.path.items)) same is ∙ ap (placed_file_if y.is_done x.after) (seen x.path.items tt) in
    record {
      content = has_new y.is_done x (f x.path.items) (c x.path.items) (expected_as x y f same expected) at;
      access = has_access y.is_done x.after (f x.path.items) (c x.path.items) at;
    }

pub all_kept : (olds news : List Change) (f g : Image) (new : Story) → AreSameChanges olds news → SameBut [] f g → AllByRecursion (IsAsExpected f) news → AllByRecursion (IsInPlace g new) news → AllByRecursion (IsKeptInPlace f new) olds
all_kept [] [] f g new same seen expected in_place = tt
all_kept [] (x ∷ news) f g new same seen expected in_place = absurd same
all_kept (x ∷ olds) [] f g new same seen expected in_place = absurd same
all_kept (x ∷ olds) (y ∷ news) f g new same seen expected in_place =
    ((λ c left. new_content x y f g c same.0 seen expected.0 (in_place.0 c left)), all_kept olds news f g new same.1 seen expected.1 in_place.1)

-- ---- each file is seen in place

pub all_new : (olds news : List Change) (f g : Image) (new : Story) → AreSameChanges olds news → SameBut [] f g → AllByRecursion (IsAsExpected f) news → new.is_known → AllByRecursion (IsPlaced g new) news → AllByRecursion (HasNewContent f new.seen) olds
all_new [] [] f g new same seen expected known placed = tt
all_new [] (x ∷ news) f g new same seen expected known placed = absurd same
all_new (x ∷ olds) [] f g new same seen expected known placed = absurd same
all_new (x ∷ olds) (y ∷ news) f g new same seen expected known placed = (new_content x y f g new.seen same.0 seen expected.0 (placed.0 known), all_new olds news f g new same.1 seen expected.1 known placed.1)

-- ---- the promise of all

module _ (changes : List Change) (output : Output) where
  free_from : (f g : Image) → SameBut [] f g → AreIn (free_paths g (temps_of changes)) (free_paths f (temps_of changes))
  free_from f g seen = free_through (temps_of changes) [] f g (not_in_none (temps_of changes)) seen

  begun_in : (f g : Image) → SameBut [] f g → AreIn (free_paths g (temps_of changes) ++ paths_of changes) (free_paths f (temps_of changes) ++ paths_of changes)
  begun_in f g seen path h = not_in_both path (free_paths g (temps_of changes)) (paths_of changes) (free_from f g seen path (not_in_front path (free_paths f (temps_of changes)) (paths_of changes) h)) (not_in_back path (free_paths f (temps_of changes)) (paths_of changes) h)

  begun_from : (f g d e i : Image) → SameBut [] f g → SameBut [] d e → IsBeforeOrBegun changes output g e i → IsBeforeOrBegun changes output f d i
  begun_from f g d e i seen same (inl before) = inl (λ path h. before path (free_from f g seen path h) ∙ same path tt)
  begun_from f g d e i seen same (inr b) = inr (record {
    output_stands = b.output_stands;
    whole = all_through changes [] f g d e i (not_in_none (paths_of changes)) seen same b.whole;
    others = λ path h. b.others path (begun_in f g seen path h) ∙ same path tt;
  })

  pub begins_noted : (a b c : Story) → b.may_leave b.seen → GoesOn (SameBut []) a b → GoesOn (IsBeforeOrBegun changes output b.seen) b c → GoesOn (IsBeforeOrBegun changes output a.seen) a c
  begins_noted a b c now first second =
      followed (SameBut []) (IsBeforeOrBegun changes output b.seen) (IsBeforeOrBegun changes output a.seen) a b c now first second (λ _ d e same. inl (λ path h. same path tt)) (λ known d e f _ same s. begun_from a.seen b.seen d e f (first.is_step known).shown same s)

  pub as_before_noted : (a b c : Story) → b.may_leave b.seen → GoesOn (SameBut []) a b → GoesOn (IsAsBefore changes b.seen) b c → GoesOn (IsAsBefore changes a.seen) a c
  as_before_noted a b c now first second =
      same_steps [] (free_paths b.seen (temps_of changes)) (free_paths a.seen (temps_of changes)) a b c now (λ _ path h. tt) (λ known. free_from a.seen b.seen (first.is_step known).shown) first second

  -- a file that was seen stays, but for the files to be placed
  same_where_seen : (f d e : Image) → IsBeforeOrBegun changes output f d e → SameWhereSeen (paths_of changes) f d e
  same_where_seen f d e (inl before) path file not_in there = before path (seen_not_free f (temps_of changes) path file there)
  same_where_seen f d e (inr b) path file not_in there = b.others path (not_in_both path (free_paths f (temps_of changes)) (paths_of changes) (seen_not_free f (temps_of changes) path file there) not_in)

  pub kept_now : (a c : Story) → GoesOn (IsBeforeOrBegun changes output a.seen) a c → a.is_known → SameWhereSeen (paths_of changes) a.seen a.seen c.seen
  kept_now a c goes known = same_where_seen a.seen a.seen c.seen (goes.is_step known).shown

  pub kept_on : (a c : Story) → GoesOn (IsBeforeOrBegun changes output a.seen) a c → GoesOn (SameWhereSeen (paths_of changes) a.seen) a c
  kept_on a c goes = loosened (IsBeforeOrBegun changes output a.seen) (SameWhereSeen (paths_of changes) a.seen) a c goes (λ _. same_where_seen a.seen)

number_as : (olds news : List Change) (number : ℕ) → AreSameChanges olds news → HasNumber number news → HasNumber number olds
number_as [] [] number same has = has
number_as [] (new ∷ news) number same has = absurd same
number_as (old ∷ olds) [] number same has = absurd has
number_as (old ∷ olds) (new ∷ news) number same (inl here) = inl (sym (ap (λ (x : Change). x.number) same.0) ∙ here)
number_as (old ∷ olds) (new ∷ news) number same (inr there) = inr (number_as olds news number same.1 there)

-- a fault of placing has its cause also from before on, where all was noted
pub cause_noted : (olds news : List Change) (output : Output) (fault : PlaceFault) (a b c : Story) → AreSameChanges olds news → GoesOn (SameBut []) a b → (a.is_known → AllByRecursion (IsAsExpected a.seen) news) → HasCause news output fault b c → HasCauseOfPlacing olds output fault a c
cause_noted olds news output SamePath a b c same goes noted cause = absurd cause
cause_noted olds news output OutputNotKept a b c same goes noted cause = failed_since a b c c goes.counted (omega arith) cause
cause_noted olds news output OutputChanged a b c same goes noted cause = λ known has. cause (goes.known.0 known) (subst (HasContent (Bytes output.bytes)) (sym ((goes.is_step known).shown output.path.items tt)) has)
cause_noted olds news output (Changed number) a b c same goes noted cause = λ known. absurd (all_expected_never news a.seen number (noted known) (unexpected_before news number [] a.seen b.seen (not_in_none (paths_of news)) (goes.is_step known).shown (cause (goes.known.0 known))))
cause_noted olds news output (NotWritten number) a b c same goes noted cause = (number_as olds news number same cause.0, failed_since a b c c goes.counted (omega arith) cause.1)
cause_noted olds news output (NotRead number) a b c same goes noted cause = (number_as olds news number same cause.0, failed_since a b c c goes.counted (omega arith) cause.1)
cause_noted olds news output (NotMoved number) a b c same goes noted cause = (number_as olds news number same cause.0, failed_since a b c c goes.counted (omega arith) cause.1)
cause_noted olds news output (NotKept number) a b c same goes noted cause = (number_as olds news number same cause.0, failed_since a b c c goes.counted (omega arith) cause.1)

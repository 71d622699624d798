-- All is prepared, the output stands, and then files are moved in place and brought to the disk.
use Rattle.std.proofs.Common.{◌≡◌, inl, inr, ⊎_elim, List, [], ◌∷◌, ◌++◌, sym, ◌∙◌, subst, arith}
use Rattle.std.specs.List.{AllByRecursion}
use Rattle.sudoers_place.specs.declared.change.Change.{Change}
use Rattle.sudoers_place.specs.declared.change.Content.TheVariants.{Bytes}
use Rattle.sudoers_place.specs.declared.change.Output.{Output}
use Rattle.sudoers_place.specs.Disk.{Image, Story, IsNotIn, SameBut, GoesOn, free_paths}
use Rattle.sudoers_place.specs.Placing.{paths_of, temps_of, AreApart, HasContent, IsOldOrNew, IsAsBefore, HasBegun, IsBeforeOrBegun, AtEveryMoment, OutputStands}
use Rattle.sudoers_place.specs.internal.Stages.{ArePlacedInPart, IsFree, written_temps}
use Rattle.sudoers_place.proofs.Paths.{AreIn, AreNotIn, not_in_front, not_in_back, not_in_both, back_not_in}
use Rattle.sudoers_place.proofs.Steps.{same_both, same_more, followed}
use Rattle.sudoers_place.proofs.Free.{free_in, written_in, written_in_free}
use Rattle.sudoers_place.proofs.Files.{all_through}

module _ (changes : List Change) (output : Output) (apart : AreApart changes output) where
  pub paths_not_temps : AreNotIn (paths_of changes) (temps_of changes)
  paths_not_temps = back_not_in (temps_of changes) (paths_of changes) apart.1

  pub output_not_written : IsNotIn output.path.items (written_temps changes ++ paths_of changes)
  output_not_written = not_in_both output.path.items (written_temps changes) (paths_of changes) (written_in changes output.path.items (not_in_front output.path.items (temps_of changes) (paths_of changes) apart.0)) (not_in_back output.path.items (temps_of changes) (paths_of changes) apart.0)

  -- what is as before is so but for all paths beside files
  pub before_more : (f d e : Image) → IsAsBefore changes f d e → SameBut (temps_of changes) d e
  before_more f = same_more (free_paths f (temps_of changes)) (temps_of changes) (free_in f (temps_of changes))

  placed_in : (f : Image) → AllByRecursion (IsFree f) changes → AreIn (written_temps changes ++ paths_of changes) (free_paths f (temps_of changes) ++ paths_of changes)
  placed_in f free path h = not_in_both path (written_temps changes) (paths_of changes) (written_in_free f changes free path (not_in_front path (free_paths f (temps_of changes)) (paths_of changes) h)) (not_in_back path (free_paths f (temps_of changes)) (paths_of changes) h)

  begun : (f g d e i : Image) → AllByRecursion (IsFree f) changes → IsAsBefore changes f f g → HasContent (Bytes output.bytes) (e output.path.items) → IsAsBefore changes f d e → ArePlacedInPart changes g e i → HasBegun changes output f d i
  begun f g d e i free seen stands before placed = record {
    output_stands = subst (HasContent (Bytes output.bytes)) (sym (placed.others output.path.items output_not_written)) stands;
    whole = all_through changes (temps_of changes) f g d e i paths_not_temps (before_more f f g seen) (before_more f d e before) placed.whole;
    others = same_both (free_paths f (temps_of changes)) (written_temps changes ++ paths_of changes) (free_paths f (temps_of changes) ++ paths_of changes) (λ path h. not_in_front path (free_paths f (temps_of changes)) (paths_of changes) h) (placed_in f free) d e i before placed.others;
  }

  pub begins : (a b c : Story) → b.may_leave b.seen → (b.is_known → OutputStands output b) → (a.is_known → AllByRecursion (IsFree a.seen) changes) → GoesOn (IsAsBefore changes a.seen) a b → GoesOn (ArePlacedInPart changes b.seen) b c → GoesOn (IsBeforeOrBegun changes output a.seen) a c
  begins a b c now stands free first second =
      followed (IsAsBefore changes a.seen) (ArePlacedInPart changes b.seen) (IsBeforeOrBegun changes output a.seen) a b c now first second (λ _ d e r. inl r) (λ known d e f left r s. inr (begun a.seen b.seen d e f (free known) (first.is_step known).shown (stands (first.known.0 known) e left) r s))

  still : (f d e i : Image) → SameBut [] e i → (some : List Change) → AllByRecursion (IsOldOrNew f d e) some → AllByRecursion (IsOldOrNew f d i) some
  still f d e i same [] all = tt
  still f d e i same (change ∷ some) all = (⊎_elim (λ old. inl (same change.path.items tt ∙ old)) (λ new. inr (same change.path.items tt ∙ new)) all.0, still f d e i same some all.1)

  begun_same : (f d e i : Image) → SameBut [] e i → IsBeforeOrBegun changes output f d e → IsBeforeOrBegun changes output f d i
  begun_same f d e i same (inl before) = inl (λ path h. same path tt ∙ before path h)
  begun_same f d e i same (inr b) = inr (record {
    output_stands = subst (HasContent (Bytes output.bytes)) (sym (same output.path.items tt)) b.output_stands;
    whole = still f d e i same changes b.whole;
    others = λ path h. same path tt ∙ b.others path h;
  })

  pub and_ends : (a b c : Story) → b.may_leave b.seen → GoesOn (IsBeforeOrBegun changes output a.seen) a b → GoesOn (SameBut []) b c → GoesOn (IsBeforeOrBegun changes output a.seen) a c
  and_ends a b c now first second =
      followed (IsBeforeOrBegun changes output a.seen) (SameBut []) (IsBeforeOrBegun changes output a.seen) a b c now first second (λ _ d e r. r) (λ _ d e f _ r s. begun_same a.seen d e f s r)

-- what a step may change, from a moment on
pub every_moment : (P : Image → Image → Type 0) (a b : Story) → ((c : Image) → a.left_since a.moment c → a.may_leave c) → ((d : Image) → P d d) → GoesOn P a b → AtEveryMoment P a b
every_moment P a b only same goes known c left = ⊎_elim (λ was. (c, only c was, same c)) (λ at. at) ((goes.is_step known).since a.moment c (omega arith) left)

-- what stands, stands under a step that leaves its path alone
pub output_stands : (output : Output) (S : Image → Image → Type 0) (a b : Story) → ((d e : Image) → S d e → e output.path.items ≡ d output.path.items) → GoesOn S a b → (a.is_known → OutputStands output a) → b.is_known → OutputStands output b
output_stands output S a b same goes stands known c left =
    let was = goes.known.1 known in
    let from = (goes.is_step was).leaves c left in
    subst (HasContent (Bytes output.bytes)) (sym (same from.0 c from.2)) (stands was from.0 from.1)

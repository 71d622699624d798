-- One new file is written beside its own, and then the rest.
use Rattle.std.proofs.Common.{◌≡◌, ◌≤◌, List, [], ◌∷◌, ◌++◌, sym, subst}
use Rattle.std.specs.List.{AllByRecursion}
use Rattle.sudoers_place.specs.declared.change.Change.{Change}
use Rattle.sudoers_place.specs.declared.change.PlaceFault.{PlaceFault}
use Rattle.sudoers_place.specs.Disk.{Image, Story, AreDistinct, SameBut, GoesOn, KeepsSynced, free_paths}
use Rattle.sudoers_place.specs.Placing.{paths_of, temps_of}
use Rattle.sudoers_place.specs.internal.Causes.{HasCauseInFiles}
use Rattle.sudoers_place.specs.internal.Stages.{IsFree, IsReady, with_temp_if_written}
use Rattle.sudoers_place.proofs.Paths.{AreIn, not_in_front}
use Rattle.sudoers_place.proofs.Steps.{same_more, same_goes_on, same_steps}
use Rattle.sudoers_place.proofs.Free.{free_before, free_in, free_through, not_in_first, not_in_others, written_free}
use Rattle.sudoers_place.proofs.Files.{ready_one, cause_in_files, cause_of_rest}
use Rattle.sudoers_place.proofs.Moves.{distinct, path_apart, temp_not_path, paths_apart_from_temp, temps_apart_from_temp}

-- where the files are given as the first and the rest
module _ (all : List Change) (change : Change) (changes : List Change) (split : all ≡ change ∷ changes) (distinct_all : AreDistinct (temps_of all ++ paths_of all)) where
  two : AreDistinct (temps_of (change ∷ changes) ++ paths_of (change ∷ changes))
  two = distinct all change changes split distinct_all

  pub split_pair : AreDistinct (change.temp.items ∷ change.path.items ∷ [])
  split_pair = (temp_not_path change changes two, (tt, tt))

  first_in : (f : Image) → AreIn (free_paths f (change.temp.items ∷ [])) (free_paths f (temps_of (change ∷ changes)))
  first_in f path h = not_in_first (f change.temp.items) change.temp.items path (free_paths f (temps_of changes)) h

  first_more : (f d e : Image) → SameBut (free_paths f (change.temp.items ∷ [])) d e → SameBut (change.temp.items ∷ []) d e
  first_more f = same_more (free_paths f (change.temp.items ∷ [])) (change.temp.items ∷ []) (free_in f (change.temp.items ∷ []))

  rest_in : (f g : Image) → SameBut (free_paths f (change.temp.items ∷ [])) f g → AreIn (free_paths g (temps_of changes)) (free_paths f (temps_of (change ∷ changes)))
  rest_in f g same path h = free_through (temps_of changes) (change.temp.items ∷ []) f g (temps_apart_from_temp change changes two) (first_more f f g same) path (not_in_others (f change.temp.items) change.temp.items path (free_paths f (temps_of changes)) h)

  again_in : (f : Image) → IsFree f change → AreIn (with_temp_if_written change.is_done change.after change.temp.items []) (free_paths f (temps_of (change ∷ changes)))
  again_in f free path h = written_free change.is_done change.after (f change.temp.items) change.temp.items path [] (free_paths f (temps_of changes)) free h tt

  for_all : (a b : Story) → GoesOn (SameBut (free_paths a.seen (temps_of (change ∷ changes)))) a b → GoesOn (SameBut (free_paths a.seen (temps_of all))) a b
  for_all a b goes = subst (λ (l : List Change). GoesOn (SameBut (free_paths a.seen (temps_of l))) a b) (sym split) goes

  pub split_one : (a b : Story) → GoesOn (SameBut (free_paths a.seen (change.temp.items ∷ []))) a b → GoesOn (SameBut (free_paths a.seen (temps_of all))) a b
  split_one a b goes = for_all a b (same_goes_on (free_paths a.seen (change.temp.items ∷ [])) (free_paths a.seen (temps_of (change ∷ changes))) a b (first_in a.seen) goes)

  both : (a b c : Story) → b.may_leave b.seen → GoesOn (SameBut (free_paths a.seen (change.temp.items ∷ []))) a b → GoesOn (SameBut (free_paths b.seen (temps_of changes))) b c → GoesOn (SameBut (free_paths a.seen (temps_of (change ∷ changes)))) a c
  both a b c now first second = same_steps (free_paths a.seen (change.temp.items ∷ [])) (free_paths b.seen (temps_of changes)) (free_paths a.seen (temps_of (change ∷ changes))) a b c now (λ _. first_in a.seen) (λ known. rest_in a.seen b.seen (first.is_step known).shown) first second

  pub split_both : (a b c : Story) → b.may_leave b.seen → GoesOn (SameBut (free_paths a.seen (change.temp.items ∷ []))) a b → GoesOn (SameBut (free_paths b.seen (temps_of changes))) b c → GoesOn (SameBut (free_paths a.seen (temps_of all))) a c
  split_both a b c now first second = for_all a c (both a b c now first second)

  -- the first is removed again, where nothing was seen before
  pub split_removed : (a b c d : Story) → b.may_leave b.seen → c.may_leave c.seen → (a.is_known → IsFree a.seen change) → GoesOn (SameBut (free_paths a.seen (change.temp.items ∷ []))) a b → GoesOn (SameBut (free_paths b.seen (temps_of changes))) b c → GoesOn (SameBut (with_temp_if_written change.is_done change.after change.temp.items [])) c d → GoesOn (SameBut (free_paths a.seen (temps_of all))) a d
  split_removed a b c d now then free first second third = for_all a d (same_steps (free_paths a.seen (temps_of (change ∷ changes))) (with_temp_if_written change.is_done change.after change.temp.items []) (free_paths a.seen (temps_of (change ∷ changes))) a c d then (λ _ path h. h) (λ known. again_in a.seen (free known)) (both a b c now first second) third)

  pub split_free : (a b : Story) → GoesOn (SameBut (free_paths a.seen (change.temp.items ∷ []))) a b → (a.is_known → IsFree a.seen change) → (b.is_known → AllByRecursion (IsFree b.seen) changes) → a.is_known → AllByRecursion (IsFree a.seen) all
  split_free a b goes first rest known =
      let whole : AllByRecursion (IsFree a.seen) (change ∷ changes) = (first known, free_before changes (change.temp.items ∷ []) a.seen b.seen (temps_apart_from_temp change changes two) (first_more a.seen a.seen b.seen (goes.is_step known).shown) (rest (goes.known.0 known))) in
      subst (λ (l : List Change). AllByRecursion (IsFree a.seen) l) (sym split) whole

  pub split_cause : (fault : PlaceFault) (a b c d : Story) → GoesOn (SameBut (free_paths a.seen (change.temp.items ∷ []))) a b → c.failures ≤ d.failures → HasCauseInFiles changes fault b c → HasCauseInFiles all fault a d
  split_cause fault a b c d goes le cause = subst (λ (l : List Change). HasCauseInFiles l fault a d) (sym split) (cause_of_rest fault change changes a d (cause_in_files fault changes (change.temp.items ∷ []) a b c d (paths_apart_from_temp change changes two) (same_goes_on (free_paths a.seen (change.temp.items ∷ [])) (change.temp.items ∷ []) a b (free_in a.seen (change.temp.items ∷ [])) goes) le cause))

  pub split_written : (b c : Story) → IsReady b change → GoesOn (SameBut (free_paths b.seen (temps_of changes))) b c → KeepsSynced (temps_of changes) b c → AllByRecursion (IsReady c) changes → AllByRecursion (IsReady c) all
  split_written b c first goes keeps rest =
      let still : IsReady c change = ready_one change (temps_of changes) b c (not_in_front change.temp.items (temps_of changes) (change.path.items ∷ paths_of changes) two.0) (not_in_front change.path.items (temps_of changes) (paths_of changes) (path_apart change changes two)) (same_goes_on (free_paths b.seen (temps_of changes)) (temps_of changes) b c (free_in b.seen (temps_of changes)) goes) keeps first in
      let whole : AllByRecursion (IsReady c) (change ∷ changes) = (still, rest) in
      subst (λ (l : List Change). AllByRecursion (IsReady c) l) (sym split) whole

-- Of several `*` the last alone has to be tried again.
use Rattle.std.proofs.Common.{◌≡◌, inl, inr, ℕ, Bool, true, false, not, ◌&&◌, List, [], ◌∷◌, ◌++◌, refl, sym, ap, subst, ◌∙◌, append_assoc}
use Rattle.std.specs.Prelude.{◌==◌}
use Rattle.std.proofs.lemmas.Bool.{false≢true}
use Rattle.std.proofs.lemmas.Bool.Decides.{eqb_tells}
use Rattle.sudoers_match_member.specs.declared.wildcards.GlobMode.{GlobMode}
use Rattle.sudoers_match_member.specs.declared.wildcards.GlobMode.TheVariants.{Path, Args}
use Rattle.sudoers_match_member.specs.Wildcard.{PatternItem, Star, Byte, Any, Set, may_wildcard_take, is_byte_taken_by_item}
use Rattle.sudoers_match_member.specs.internal.Run.{DoItemsTakeBytes, MayStarTakeRun, DoItemsMatch}
use Rattle.sudoers_match_member.proofs.Items.{taken_bytes_before_match_are_match, rest_after_taken_bytes_is_matched, match_of_items_has_taken_prefix}

true_conjunction_has_true_first_part : (p q : Bool) → (p && q) ≡ true → p ≡ true
true_conjunction_has_true_first_part true q e = refl
true_conjunction_has_true_first_part false q e = e

-- An item that takes two bytes may take both as a wildcard, or neither.
bytes_taken_by_item_are_wildcards_alike : (mode : GlobMode) (i : PatternItem) (b c : ℕ) → is_byte_taken_by_item mode i b ≡ true → is_byte_taken_by_item mode i c ≡ true → may_wildcard_take mode b ≡ may_wildcard_take mode c
bytes_taken_by_item_are_wildcards_alike Args i b c s t = refl
bytes_taken_by_item_are_wildcards_alike Path Star b c s t = absurd (false≢true s)
bytes_taken_by_item_are_wildcards_alike Path (Byte d) b c s t =
    elim (eqb_tells b d) [
      | inl e ↦ elim (eqb_tells c d) [ inl f ↦ ap (λ x. not (x == 47)) (e.1 ∙ sym f.1) | inr f ↦ absurd (false≢true (sym f.0 ∙ t)) ]
      | inr e ↦ absurd (false≢true (sym e.0 ∙ s))
    ]
bytes_taken_by_item_are_wildcards_alike Path Any b c s t = s ∙ sym t
bytes_taken_by_item_are_wildcards_alike Path (Set false is) b c s t = true_conjunction_has_true_first_part (may_wildcard_take Path b) _ s ∙ sym (true_conjunction_has_true_first_part (may_wildcard_take Path c) _ t)
bytes_taken_by_item_are_wildcards_alike Path (Set true is) b c s t = true_conjunction_has_true_first_part (may_wildcard_take Path b) _ s ∙ sym (true_conjunction_has_true_first_part (may_wildcard_take Path c) _ t)

-- The same places of two texts are for wildcards, or not.
abbrev AreWildcardsAlike : GlobMode → List ℕ → List ℕ → Type 0
AreWildcardsAlike mode [] ds = ds ≡ []
AreWildcardsAlike mode (c ∷ cs) [] = ⊥
AreWildcardsAlike mode (c ∷ cs) (d ∷ ds) = (may_wildcard_take mode c ≡ may_wildcard_take mode d) × AreWildcardsAlike mode cs ds

bytes_taken_by_same_items_are_alike : (mode : GlobMode) (items : List PatternItem) (cs ds : List ℕ) → DoItemsTakeBytes mode items cs → DoItemsTakeBytes mode items ds → AreWildcardsAlike mode cs ds
bytes_taken_by_same_items_are_alike mode [] cs ds s t = subst (λ xs. AreWildcardsAlike mode xs ds) (sym s) t
bytes_taken_by_same_items_are_alike mode (i ∷ items) [] ds s t = absurd s
bytes_taken_by_same_items_are_alike mode (i ∷ items) (c ∷ cs) [] s t = absurd t
bytes_taken_by_same_items_are_alike mode (i ∷ items) (c ∷ cs) (d ∷ ds) s t = (bytes_taken_by_item_are_wildcards_alike mode i c d s.0 t.0, bytes_taken_by_same_items_are_alike mode items cs ds s.1 t.1)

star_run_extends_by_wildcard_byte : (mode : GlobMode) (run : List ℕ) (b : ℕ) → MayStarTakeRun mode run → may_wildcard_take mode b ≡ true → MayStarTakeRun mode (run ++ b ∷ [])
star_run_extends_by_wildcard_byte mode [] b all h = (h, tt)
star_run_extends_by_wildcard_byte mode (c ∷ run) b all h = (all.0, star_run_extends_by_wildcard_byte mode run b all.1 h)

concatenation_of_star_runs_is_star_run : (mode : GlobMode) (run others : List ℕ) → MayStarTakeRun mode run → MayStarTakeRun mode others → MayStarTakeRun mode (run ++ others)
concatenation_of_star_runs_is_star_run mode [] others s t = t
concatenation_of_star_runs_is_star_run mode (c ∷ run) others s t = (s.0, concatenation_of_star_runs_is_star_run mode run others s.1 t)

-- Behind a run that is not empty stand bytes that are alike with those that the text begins with: `*` may stand for all up to their
-- end, but for as many at the front.
gap_between_alike_bytes_is_star_run : (mode : GlobMode) (others : List ℕ) (a : ℕ) (run firsts rest last : List ℕ) → MayStarTakeRun mode (a ∷ run) → AreWildcardsAlike mode firsts others
    → a ∷ run ++ (others ++ last) ≡ firsts ++ rest → (gap : List ℕ) × (rest ≡ gap ++ last) × MayStarTakeRun mode gap
gap_between_alike_bytes_is_star_run mode [] a run [] rest last s bytes_taken_by_same_items_are_alike e = (a ∷ run, sym e, s)
gap_between_alike_bytes_is_star_run mode [] a run (d ∷ firsts) rest last s bytes_taken_by_same_items_are_alike e = absurd bytes_taken_by_same_items_are_alike
gap_between_alike_bytes_is_star_run mode (c ∷ others) a run [] rest last s bytes_taken_by_same_items_are_alike e = absurd cc
gap_between_alike_bytes_is_star_run mode (c ∷ others) a [] (d ∷ firsts) rest last s bytes_taken_by_same_items_are_alike e =
    let same : a ≡ d = cc in
    let here : may_wildcard_take mode c ≡ true = sym bytes_taken_by_same_items_are_alike.0 ∙ ap (may_wildcard_take mode) (sym same) ∙ s.0 in
    let tails : c ∷ others ++ last ≡ firsts ++ rest = cc in
    gap_between_alike_bytes_is_star_run mode others c [] firsts rest last (here, tt) bytes_taken_by_same_items_are_alike.1 tails
gap_between_alike_bytes_is_star_run mode (c ∷ others) a (b ∷ run) (d ∷ firsts) rest last s bytes_taken_by_same_items_are_alike e =
    let same : a ≡ d = cc in
    let here : may_wildcard_take mode c ≡ true = sym bytes_taken_by_same_items_are_alike.0 ∙ ap (may_wildcard_take mode) (sym same) ∙ s.0 in
    let tails : b ∷ run ++ (c ∷ others ++ last) ≡ firsts ++ rest = cc in
    gap_between_alike_bytes_is_star_run mode others b (run ++ c ∷ []) firsts rest last (star_run_extends_by_wildcard_byte mode (b ∷ run) c s.1 here) bytes_taken_by_same_items_are_alike.1
    (ap (λ xs. b ∷ xs) (append_assoc run (c ∷ []) (others ++ last)) ∙ tails)

-- Where items behind a `*` take bytes up to another `*`, only the other has to be tried.
pub match_of_two_stars_reduces_to_last : (mode : GlobMode) (items more : List PatternItem) (bytes rest : List ℕ) → DoItemsTakeBytes mode items bytes
    → DoItemsMatch mode (Star ∷ items ++ Star ∷ more) (bytes ++ rest) → DoItemsMatch mode (Star ∷ more) rest
match_of_two_stars_reduces_to_last mode items more bytes rest t ([], left, e, s, m) =
    rest_after_taken_bytes_is_matched mode items (Star ∷ more) bytes rest t (subst (DoItemsMatch mode (items ++ Star ∷ more)) (sym e) m)
match_of_two_stars_reduces_to_last mode items more bytes rest t (a ∷ run, left, e, s, m) =
    let taken = match_of_items_has_taken_prefix mode items (Star ∷ more) bytes left t m in
    let again = taken.4 in
    let gap = gap_between_alike_bytes_is_star_run mode taken.0 a run bytes rest taken.1 s (bytes_taken_by_same_items_are_alike mode items bytes taken.0 t taken.3) (ap (λ xs. a ∷ run ++ xs) (sym taken.2) ∙ sym e) in
    (gap.0 ++ again.0, again.1, gap.1 ∙ ap (λ xs. gap.0 ++ xs) again.2 ∙ sym (append_assoc gap.0 again.0 again.1), concatenation_of_star_runs_is_star_run mode gap.0 again.0 gap.2 again.3, again.4)

pub match_of_last_star_extends_back : (mode : GlobMode) (items more : List PatternItem) (bytes rest : List ℕ) → DoItemsTakeBytes mode items bytes
    → DoItemsMatch mode (Star ∷ more) rest → DoItemsMatch mode (Star ∷ items ++ Star ∷ more) (bytes ++ rest)
match_of_last_star_extends_back mode items more bytes rest t m = ([], bytes ++ rest, refl, tt, taken_bytes_before_match_are_match mode items (Star ∷ more) bytes rest t m)

-- Where what is behind a `*` matches no text from here on, the `*` stands for a byte more.
pub star_of_unmatched_items_takes_byte : (mode : GlobMode) (items : List PatternItem) (text : List ℕ) → (DoItemsMatch mode items text → ⊥) → DoItemsMatch mode (Star ∷ items) text
    → (b : ℕ) × (rest : List ℕ) × (text ≡ b ∷ rest) × (may_wildcard_take mode b ≡ true) × DoItemsMatch mode (Star ∷ items) rest
star_of_unmatched_items_takes_byte mode items text n ([], left, e, s, m) = absurd (n (subst (DoItemsMatch mode items) (sym e) m))
star_of_unmatched_items_takes_byte mode items text n (a ∷ run, left, e, s, m) = (a, run ++ left, e, s.0, (run, left, refl, s.1, m))

pub wildcard_byte_before_star_match_is_match : (mode : GlobMode) (items : List PatternItem) (b : ℕ) (rest : List ℕ) → may_wildcard_take mode b ≡ true
    → DoItemsMatch mode (Star ∷ items) rest → DoItemsMatch mode (Star ∷ items) (b ∷ rest)
wildcard_byte_before_star_match_is_match mode items b rest h (run, left, e, s, m) = (b ∷ run, left, ap (λ xs. b ∷ xs) e, (h, s), m)

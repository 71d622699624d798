-- Verdicts for each value of a filter.
use Rattle.sudoers_cvt_rewrite.proofs.Common.{AreValidVerdictCaches, Atom, Bool, Cmnd, Filter, HasVerdictCacheAt, Host, IsFreshVerdictCache, IsValidVerdictCache, Kind, Line, List, ListHasElement, Member, Runas, Some, User, []}
use Rattle.sudoers_cvt_rewrite.proofs.Common.{alias_names_among_members, alias_names_of_atom, ap, append-nil, append_assoc, arith, cond, drop, drop_more, false, filter, get-set, get_or, get_or_from_slice_get, inl}
use Rattle.sudoers_cvt_rewrite.proofs.Common.{inr, is_filter_without_users, is_filter_host_matched_or_allowed, is_list_without_items, is_member_kept_by_filter, is_filter_user_matched_or_allowed, length, list_any, map, map_push}
use Rattle.sudoers_cvt_rewrite.proofs.Common.{members_pruned_if_wanted, refl, slice_get, subst, suc, sym, true, zero, ℕ, ◌++◌, ◌+◌, ◌<◌, ◌||◌, ◌∙◌, ◌∷◌, ◌≡◌, ◌⊎◌}
use Rattle.std.proofs.Common.{set}
use Rattle.sudoers_check.proofs.Chains.{chain_from_some_is_chain_from_superset}
use Rattle.sudoers_check.proofs.Lists.{get_push}
use Rattle.sudoers_check.proofs.Named.{element_of_front_is_in_appended, element_of_back_is_in_appended}
use Rattle.sudoers_cvt_rewrite.specs.declared.filter_text.FilterKey.{FilterKey}
use Rattle.sudoers_cvt_rewrite.specs.internal.Values.{is_atom_matching_value}
use Rattle.sudoers_cvt_rewrite.specs.Filter.{is_allowing_hit}
use Rattle.sudoers_cvt_rewrite.proofs.Common.{ap₂, last_hit_in_expanded_list}
use Rattle.sudoers_match_list.specs.Cycle.{ListLeadsToCyclicAlias}
use Rattle.sudoers_match.specs.internal.Straight.{LeadsToNoCyclicAlias}
use Rattle.sudoers_match_list.specs.declared.alias_verdicts.AliasVerdictCache.{AliasVerdictCache}

-- One of the verdicts is replaced by others for the same value.
pub replaced_verdict_cache_keeps_caches_valid : {X : Type 0} (k : Kind) (lines : List Line) (test : X → Atom → Bool) (values : List X) (verdicts : List AliasVerdictCache) (n : ℕ) (value : X) (of_value : AliasVerdictCache)
    → value ≡ get_or values n value → IsValidVerdictCache k lines (test value) of_value
    → AreValidVerdictCaches k lines test values verdicts → AreValidVerdictCaches k lines test values (set verdicts n of_value)
replaced_verdict_cache_keeps_caches_valid {X} k lines test values verdicts n value of_value is kept all m x v at_x at_v = elim (get-set verdicts n m of_value v at_v) [
  | inl new ↦
      let same_value : x ≡ value = sym (get_or_from_slice_get values n x value (subst (λ j. slice_get values j ≡ Some x) new.0 at_x)) ∙ sym is in
      subst (λ u. IsValidVerdictCache k lines (test x) u) new.1 (subst (λ u. IsValidVerdictCache k lines (test u) of_value) (sym same_value) kept)
  | inr old ↦ all m x v at_x old.1
]

-- Verdicts that hold no alias are added.
pub added_verdict_cache_keeps_caches_valid : {X : Type 0} (k : Kind) (lines : List Line) (test : X → Atom → Bool) (values : List X) (n : ℕ) (old new : List AliasVerdictCache)
    → HasVerdictCacheAt lines n old new → AreValidVerdictCaches k lines test values old → AreValidVerdictCaches k lines test values new
added_verdict_cache_keeps_caches_valid k lines test values n old new added all m x v at_x at_v = elim (added.each m v at_v) [
  | inl before ↦ all m x v at_x before
  | inr fresh ↦ fresh k (test x)
]

pub pushed_verdict_cache_is_at_end : (lines : List Line) (old : List AliasVerdictCache) (fresh : AliasVerdictCache) → IsFreshVerdictCache lines fresh → (i : ℕ) (v : AliasVerdictCache)
    → slice_get (old ++ fresh ∷ []) i ≡ Some v → (slice_get old i ≡ Some v) ⊎ IsFreshVerdictCache lines v
pushed_verdict_cache_is_at_end lines old fresh is i v e = elim (get_push old fresh i v e) [
  | inl before ↦ inl before
  | inr last ↦ inr (subst (IsFreshVerdictCache lines) last.1 is)
]

-- The verdicts of each value, where the key is known.
pub caches_are_valid_at_key : (k : Kind) (lines : List Line) (key same : FilterKey) (names slice : List (List ℕ)) (verdicts : List AliasVerdictCache) → key ≡ same → slice ≡ names
    → AreValidVerdictCaches k lines (is_atom_matching_value key) names verdicts → AreValidVerdictCaches k lines (is_atom_matching_value same) slice verdicts
caches_are_valid_at_key k lines key same names slice verdicts is e valid =
    subst (λ word. AreValidVerdictCaches k lines (is_atom_matching_value word) slice verdicts) is (subst (λ ns. AreValidVerdictCaches k lines (is_atom_matching_value key) ns verdicts) (sym e) valid)

pub answer_is_same_at_key : (k : Kind) (lines : List Line) (key same : FilterKey) (names slice : List (List ℕ)) (ms : List Member) (says : Bool) → key ≡ same → slice ≡ names
    → says ≡ list_any (λ value. is_allowing_hit (last_hit_in_expanded_list lines k (is_atom_matching_value same value) ms)) slice
    → says ≡ list_any (λ value. is_allowing_hit (last_hit_in_expanded_list lines k (is_atom_matching_value key value) ms)) names
answer_is_same_at_key k lines key same names slice ms says is e said =
    said ∙ ap₂ (λ word ns. list_any (λ value. is_allowing_hit (last_hit_in_expanded_list lines k (is_atom_matching_value word value) ms)) ns) (sym is) e

-- One item more does not pass.
pub failing_item_is_dropped_from_any_test : {X : Type 0} (p : X → Bool) (xs : List X) (n : ℕ) (x : X) → n < length xs → x ≡ get_or xs n x → p x ≡ false
    → list_any p (drop n xs) ≡ list_any p xs → list_any p (drop (n + 1) xs) ≡ list_any p xs
failing_item_is_dropped_from_any_test p xs n x h is fails so_far =
    ap (λ b. b || list_any p (drop (n + 1) xs)) (sym fails)
    ∙ ap (λ y. list_any p (y ∷ drop (n + 1) xs)) is
    ∙ ap (list_any p) (sym (drop_more xs n x h))
    ∙ so_far

-- ---- a list that is one of the members of another

-- the names of the member at a place
row_member_alias_names_are_in_list : {R : Type 0} (f : R → Member) (rows : List R) (n : ℕ) (d : R) → n < length rows → (name : List ℕ)
    → ListHasElement (alias_names_among_members (f (get_or rows n d) ∷ [])) name → ListHasElement (alias_names_among_members (map f rows)) name
row_member_alias_names_are_in_list f [] n d h name has = absurd (omega arith)
row_member_alias_names_are_in_list f (x ∷ rows) zero d h name has = element_of_front_is_in_appended (alias_names_of_atom (f x).atom) (alias_names_among_members (map f rows)) name (subst (λ ns. ListHasElement ns name) (append-nil (alias_names_of_atom (f x).atom)) has)
row_member_alias_names_are_in_list f (x ∷ rows) (suc n) d h name has = element_of_back_is_in_appended (alias_names_of_atom (f x).atom) (alias_names_among_members (map f rows)) name (row_member_alias_names_are_in_list f rows n d (omega arith) name has)

pub row_of_acyclic_list_is_acyclic : {R : Type 0} (k : Kind) (lines : List Line) (f : R → Member) (rows : List R) (n : ℕ) (d : R) (one : List R) → n < length rows → one ≡ get_or rows n d ∷ []
    → LeadsToNoCyclicAlias k lines (map f rows) → LeadsToNoCyclicAlias k lines (map f one)
row_of_acyclic_list_is_acyclic k lines f rows n d one h is straight l = let m = f (get_or rows n d) in let o = subst (λ rs. ListLeadsToCyclicAlias k lines (map f rs)) is l in straight (record {
  alias = o.alias;
  stands = o.stands;
  of_kind = o.of_kind;
  reached = chain_from_some_is_chain_from_superset (ListHasElement (alias_names_among_members (m ∷ []))) (ListHasElement (alias_names_among_members (map f rows))) (row_member_alias_names_are_in_list f rows n d h) o.alias.def.name o.reached;
  cyclic = o.cyclic;
})

-- ---- rows that stay

module _ {R : Type 0} (f : R → Member) (p : Member → Bool) (rows : List R) (n : ℕ) (d : R) (h : n < length rows) (left : List R) where
  at_row : filter p (map f (drop n rows)) ≡ filter p (f (get_or rows n d) ∷ map f (drop (n + 1) rows))
  at_row = ap (λ rs. filter p (map f rs)) (drop_more rows n d h)

  pub row_falls : (same : List R) → same ≡ left → p (f (get_or rows n d)) ≡ false → map f left ++ filter p (map f (drop n rows)) ≡ filter p (map f rows)
      → map f same ++ filter p (map f (drop (n + 1) rows)) ≡ filter p (map f rows)
  row_falls same e fails so_far =
      ap (λ rs. map f rs ++ filter p (map f (drop (n + 1) rows))) e
      ∙ ap (λ b. map f left ++ cond b (f (get_or rows n d) ∷ filter p (map f (drop (n + 1) rows))) (filter p (map f (drop (n + 1) rows)))) (sym fails)
      ∙ ap (λ ms. map f left ++ ms) (sym at_row)
      ∙ so_far

  pub row_stays : (more : List R) → more ≡ left ++ get_or rows n d ∷ [] → p (f (get_or rows n d)) ≡ true → map f left ++ filter p (map f (drop n rows)) ≡ filter p (map f rows)
      → map f more ++ filter p (map f (drop (n + 1) rows)) ≡ filter p (map f rows)
  row_stays more e passes so_far =
      ap (λ rs. map f rs ++ filter p (map f (drop (n + 1) rows))) e
      ∙ ap (λ ms. ms ++ filter p (map f (drop (n + 1) rows))) (map_push f left (get_or rows n d))
      ∙ append_assoc (map f left) (f (get_or rows n d) ∷ []) (filter p (map f (drop (n + 1) rows)))
      ∙ ap (λ b. map f left ++ cond b (f (get_or rows n d) ∷ filter p (map f (drop (n + 1) rows))) (filter p (map f (drop (n + 1) rows)))) (sym passes)
      ∙ ap (λ ms. map f left ++ ms) (sym at_row)
      ∙ so_far

filter_by_true_keeps_list : {X : Type 0} (xs : List X) → xs ≡ filter (λ _. true) xs
filter_by_true_keeps_list [] = refl
filter_by_true_keeps_list (x ∷ xs) = ap (λ ys. x ∷ ys) (filter_by_true_keeps_list xs)

-- All stay, or those that pass.
filter_by_all_or_test_is_conditional : {X : Type 0} (all : Bool) (p : X → Bool) (xs : List X) → filter (λ x. all || p x) xs ≡ cond all xs (filter p xs)
filter_by_all_or_test_is_conditional true p xs = sym (filter_by_true_keeps_list xs)
filter_by_all_or_test_is_conditional false p xs = refl

module _ (lines : List Line) (f : Filter) where
  pub pruned_is : (k : Kind) (ms : List Member) → filter (is_member_kept_by_filter k lines f) ms ≡ members_pruned_if_wanted k lines f true ms
  pruned_is User ms = filter_by_all_or_test_is_conditional (is_filter_without_users f) (λ (m : Member). is_filter_user_matched_or_allowed false lines f (m ∷ [])) ms
  pruned_is Host ms = filter_by_all_or_test_is_conditional (is_list_without_items f.hosts) (λ (m : Member). is_filter_host_matched_or_allowed false lines f (m ∷ [])) ms
  pruned_is Runas ms = sym (filter_by_true_keeps_list ms)
  pruned_is Cmnd ms = sym (filter_by_true_keeps_list ms)

  pub whole_is : (k : Kind) (ms : List Member) → ms ≡ members_pruned_if_wanted k lines f false ms
  whole_is User ms = refl
  whole_is Host ms = refl
  whole_is Runas ms = refl
  whole_is Cmnd ms = refl

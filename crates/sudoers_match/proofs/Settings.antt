-- The last setting of runas_default that counts.
use Rattle.sudoers_match.proofs.Common.{AllByRecursion, DecidesWhetherScopeApplies, IsLastItemWith, IsLastRunasDefaultOfLine, IsRunasDefault, IsRunasDefaultOfLinesBefore, IsScopeForUserOnHost, Line, List, None}
use Rattle.sudoers_match.proofs.Common.{Option, Param, Scope, Some, Who, [], ap, append-nil, false, get_or, last_item_of, length, map, option_or, refl, runas_defaults_in_node, runas_defaults_in_params}
use Rattle.sudoers_match.proofs.Common.{runas_defaults_of_lines, runas_name_or_root, setting_with_scope, slice_get, subst, sym, take, take_all, take_more, true, ℕ, ◌++◌, ◌+◌, ◌∙◌, ◌∷◌, ◌≡◌, ◌≤◌}
use Rattle.std.proofs.lemmas.Grind.{flat_map-append}
use Rattle.std.proofs.lemmas.Option.{slice_get-get_or, slice_get_within}
use Rattle.sudoers_grammar.specs.Node as node
use Rattle.sudoers_match.proofs.Lasts.{last_then, last_one}

module _ {X : Type 0} where
  pub none_last : (xs : List X) → last_item_of xs ≡ None → xs ≡ []
  none_last [] e = refl
  none_last (x ∷ xs) e = absurd (by (last_item_of xs) e)
    where
      by : (o : Option X) → option_or o (Some x) ≡ None → ⊥
      by None e = let clash : Some x ≡ None = e in cc
      by (Some y) e = let clash : Some y ≡ None = e in cc

  some_last : (xs : List X) (x : X) → last_item_of xs ≡ Some x → (before : List X) × (xs ≡ before ++ x ∷ [])
  some_last [] x e = absurd cc
  some_last (y ∷ ys) x e = by (some_last ys) (last_item_of ys) refl e
    where
      by : ((z : X) → last_item_of ys ≡ Some z → (before : List X) × (ys ≡ before ++ z ∷ [])) → (o : Option X) → last_item_of ys ≡ o → option_or o (Some y) ≡ Some x
          → (before : List X) × (y ∷ ys ≡ before ++ x ∷ [])
      by more None is e = ([], ap (λ zs. y ∷ zs) (none_last ys is) ∙ ap (λ z. z ∷ []) (let same : y ≡ x = cc in same))
      by more (Some z) is e =
          let same : z ≡ x = cc in
          let w = more x (is ∙ ap Some same) in
          (y ∷ w.0, ap (λ zs. y ∷ zs) w.1)

pub map_of_appended_is_appended_maps : {X Y : Type 0} (f : X → Y) (xs ys : List X) → map f (xs ++ ys) ≡ map f xs ++ map f ys
map_of_appended_is_appended_maps f [] ys = refl
map_of_appended_is_appended_maps f (x ∷ xs) ys = ap (λ zs. f x ∷ zs) (map_of_appended_is_appended_maps f xs ys)

pub defaults_of_one_more_line : (all : List Line) (i : ℕ) (line : Line) → slice_get all i ≡ Some line → runas_defaults_of_lines (take (i + 1) all) ≡ runas_defaults_of_lines (take i all) ++ runas_defaults_in_node line.node
defaults_of_one_more_line all i line at =
    let within = slice_get_within all i line at in
    let same : get_or all i line ≡ line = let two : Some (get_or all i line) ≡ Some line = sym (slice_get-get_or all i line within) ∙ at in cc in
    ap runas_defaults_of_lines (take_more all i line within ∙ ap (λ l. take i all ++ l ∷ []) same)
    ∙ flat_map-append (λ (l : Line). runas_defaults_in_node l.node) (take i all) (line ∷ [])
    ∙ ap (λ ds. runas_defaults_of_lines (take i all) ++ ds) (append-nil (runas_defaults_in_node line.node))

module _ (lines : List Line) (who : Who) where
  abbrev Of : Option Scope × List ℕ → Type 0
  Of setting = IsScopeForUserOnHost lines who setting.0

  pub no_setting : (scope : Option Scope) (params : List Param) → last_item_of (runas_defaults_in_params params) ≡ None → IsLastRunasDefaultOfLine lines who scope params None
  no_setting scope params e = subst (λ vs. IsLastItemWith Of (map (setting_with_scope scope) vs) None) (sym (none_last (runas_defaults_in_params params) e)) tt

  none_of : (scope : Option Scope) (vs : List (List ℕ)) → (IsScopeForUserOnHost lines who scope → ⊥) → AllByRecursion (λ x. Of x → ⊥) (map (setting_with_scope scope) vs)
  none_of scope [] other = tt
  none_of scope (v ∷ vs) other = (other, none_of scope vs other)

  pub counted : (scope : Option Scope) (params : List Param) (name : List ℕ) → last_item_of (runas_defaults_in_params params) ≡ Some name → DecidesWhetherScopeApplies lines who scope true
      → IsLastRunasDefaultOfLine lines who scope params (Some name)
  counted scope params name e is =
      let w = some_last (runas_defaults_in_params params) name e in
      (map (setting_with_scope scope) w.0, [], ap (map (setting_with_scope scope)) w.1 ∙ map_of_appended_is_appended_maps (setting_with_scope scope) w.0 (name ∷ []), is, tt)

  pub not_counted : (scope : Option Scope) (params : List Param) → DecidesWhetherScopeApplies lines who scope false → IsLastRunasDefaultOfLine lines who scope params None
  not_counted scope params other = none_of scope (runas_defaults_in_params params) other

  module _ (all : List Line) where
    pub none_so_far : (name : List ℕ) → name ≡ runas_name_or_root None → IsRunasDefaultOfLinesBefore lines who all 0 name
    none_so_far name e = record { last = None; is_last = tt; says = e }

    module _ (i : ℕ) (line : Line) (at : slice_get all i ≡ Some line) where
      line_more : (name new : List ℕ) (latest : Option (Option Scope × List ℕ)) → IsRunasDefaultOfLinesBefore lines who all i name → IsLastItemWith Of (runas_defaults_in_node line.node) latest
          → ((last : Option (Option Scope × List ℕ)) → name ≡ runas_name_or_root last → new ≡ runas_name_or_root (option_or latest last)) → IsRunasDefaultOfLinesBefore lines who all (i + 1) new
      line_more name new latest s l e = record {
        last = option_or latest s.last;
        is_last = subst (λ ds. IsLastItemWith Of ds (option_or latest s.last)) (sym (defaults_of_one_more_line all i line at)) (last_then Of (runas_defaults_of_lines (take i all)) (runas_defaults_in_node line.node) s.last latest s.is_last l);
        says = e s.last s.says;
      }

      pub defaults_more : (scope : Option Scope) (params : List Param) (name new : List ℕ) (latest : Option (List ℕ)) → line.node ≡ node.Defaults scope params
          → IsRunasDefaultOfLinesBefore lines who all i name → IsLastRunasDefaultOfLine lines who scope params latest → option_or latest (Some name) ≡ Some new → IsRunasDefaultOfLinesBefore lines who all (i + 1) new
      defaults_more scope params name new None is s l e =
          line_more name new None s (subst (λ n. IsLastItemWith Of (runas_defaults_in_node n) None) (sym is) l)
          (λ last says. let same : name ≡ new = cc in sym same ∙ says)
      defaults_more scope params name new (Some v) is s l e =
          line_more name new (Some (setting_with_scope scope v)) s (subst (λ n. IsLastItemWith Of (runas_defaults_in_node n) (Some (setting_with_scope scope v))) (sym is) l)
          (λ last says. let same : v ≡ new = cc in sym same)

      pub other_more : (name : List ℕ) → runas_defaults_in_node line.node ≡ [] → IsRunasDefaultOfLinesBefore lines who all i name → IsRunasDefaultOfLinesBefore lines who all (i + 1) name
      other_more name none s =
          line_more name name None s (subst (λ ds. IsLastItemWith Of ds None) (sym none) tt) (λ last says. says)

    pub whole : (i : ℕ) (name : List ℕ) → length all ≤ i → all ≡ lines → IsRunasDefaultOfLinesBefore lines who all i name → IsRunasDefault lines who name
    whole i name end same s = record {
      last = s.last;
      is_last = subst (λ ls. IsLastItemWith Of (runas_defaults_of_lines ls) s.last) (take_all i all end ∙ same) s.is_last;
      says = s.says;
    }

-- there is one such name
pub runas_default_is_unique : (lines : List Line) (who : Who) (name other : List ℕ) → IsRunasDefault lines who name → IsRunasDefault lines who other → name ≡ other
runas_default_is_unique lines who name other d e =
    d.says ∙ ap runas_name_or_root (last_one (λ (setting : Option Scope × List ℕ). IsScopeForUserOnHost lines who setting.0) (runas_defaults_of_lines lines) d.last e.last d.is_last e.is_last) ∙ sym e.says

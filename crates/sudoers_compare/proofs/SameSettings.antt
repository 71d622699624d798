-- Settings of runas_default are the same exactly if they are decided to be the same.
use Rattle.std.proofs.Common.{◌≡◌, ◌↔◌, ℕ, Bool, true, ◌&&◌, List, Option, Some, None, refl, sym, ap₂, subst, ◌∙◌, true≢false}
use Rattle.std.proofs.lemmas.Bool.{and_parts}
use Rattle.std.specs.Str.{bytes_eq}
use Rattle.sudoers_grammar.specs.declared.node.Kind.{Kind}
use Rattle.sudoers_grammar.specs.declared.node.Kind.TheVariants.{User, Runas, Host, Cmnd}
use Rattle.sudoers_tree.specs.Definition.{is_equal_kind}
use Rattle.sudoers_match_list.specs.Flat.{SignedAtom}
use Rattle.laws_compare.specs.Content.{FlatRunasDefault}
use Rattle.laws_compare.specs.Decided.{is_same_flat_list}
use Rattle.laws_compare.proofs.SameAtoms.{alike_bytes_are_same}
use Rattle.sudoers_compare.proofs.SameRows.{alike_flat_lists_are_same, both_true, bytes_are_alike, flat_list_is_alike}
use Rattle.sudoers_compare.specs.FlatDefaults.{is_same_flat_scope}

-- their scopes and names are the same
abbrev pub is_same_flat_runas_default : FlatRunasDefault → FlatRunasDefault → Bool
is_same_flat_runas_default a b = is_same_flat_scope a.scope b.scope && bytes_eq a.name b.name

-- ---- each is the same as itself

kind_is_itself : (k : Kind) → is_equal_kind k k ≡ true
kind_is_itself User = refl
kind_is_itself Runas = refl
kind_is_itself Host = refl
kind_is_itself Cmnd = refl

scope_is_itself : (a : Option (Kind × List SignedAtom)) → is_same_flat_scope a a ≡ true
scope_is_itself None = refl
scope_is_itself (Some a) = both_true (kind_is_itself a.0) (flat_list_is_alike a.1)

setting_is_itself : (a : FlatRunasDefault) → is_same_flat_runas_default a a ≡ true
setting_is_itself a = both_true (scope_is_itself a.scope) (bytes_are_alike a.name)

-- ---- what is decided to be the same is the same

equal_kinds_are_same : (k j : Kind) → is_equal_kind k j ≡ true → k ≡ j
equal_kinds_are_same User User e = refl
equal_kinds_are_same Runas Runas e = refl
equal_kinds_are_same Host Host e = refl
equal_kinds_are_same Cmnd Cmnd e = refl
equal_kinds_are_same k j e = absurd (true≢false (sym e))

abbrev the_scope : Kind → List SignedAtom → Option (Kind × List SignedAtom)
the_scope k fs = Some (k, fs)

scopes_decided_same_are_same : (a b : Option (Kind × List SignedAtom)) → is_same_flat_scope a b ≡ true → a ≡ b
scopes_decided_same_are_same None None e = refl
scopes_decided_same_are_same (Some (k, fs)) (Some (j, gs)) e =
    let both = and_parts (is_equal_kind k j) (is_same_flat_list fs gs) e in
    ap₂ the_scope (equal_kinds_are_same k j both.0) (alike_flat_lists_are_same fs gs both.1)
scopes_decided_same_are_same None (Some b) e = absurd (true≢false (sym e))
scopes_decided_same_are_same (Some a) None e = absurd (true≢false (sym e))

abbrev the_setting : Option (Kind × List SignedAtom) → List ℕ → FlatRunasDefault
the_setting scope name = record { scope = scope; name = name }

settings_decided_same_are_same : (a b : FlatRunasDefault) → is_same_flat_runas_default a b ≡ true → a ≡ b
settings_decided_same_are_same a b e =
    let both = and_parts (is_same_flat_scope a.scope b.scope) (bytes_eq a.name b.name) e in
    ap₂ the_setting (scopes_decided_same_are_same a.scope b.scope both.0) (alike_bytes_are_same a.name b.name both.1)

pub settings_are_same_if_decided : (a b : FlatRunasDefault) (result : Bool) → result ≡ is_same_flat_runas_default a b → (result ≡ true) ↔ (a ≡ b)
settings_are_same_if_decided a b result is =
    ((λ e. settings_decided_same_are_same a b (sym is ∙ e)), (λ e. is ∙ subst (λ (c : FlatRunasDefault). is_same_flat_runas_default a c ≡ true) e (setting_is_itself a)))

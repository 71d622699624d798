-- As whom a command may run.
use Rattle.sudoers_match.proofs.Common.{Bool, DecidesWhetherListAllows, DecidesWhetherRunasGroupsAllow, DecidesWhetherRunasSpecAllows, Err, Group, IfOk, IsLastHitOfList, IsListVerdict, IsRunasDefault, Line, List}
use Rattle.sudoers_match.proofs.Common.{Member, MemberHit, None, Ok, Option, Result, Runas, Some, Verdict, Who, [], ap, false, is_group_absent_or_among, is_name_equal_ignoring_case, is_runas_group_atom_match}
use Rattle.sudoers_match.proofs.Common.{is_user_atom_match, length, map, is_allowed_by_verdict_or_own_group, refl, sym, true, verdict_of_hit, ℕ, ◌&&◌, ◌==◌, ◌∙◌, ◌∷◌, ◌≡◌}
use Rattle.std.proofs.lemmas.Bool.{false≢true}
use Rattle.sudoers_match_member.specs.declared.people_and_commands.Person.{Person}
use Rattle.sudoers_match.proofs.Settings.{runas_default_is_unique}

pub property_of_ok_result_is_weakened : {A E : Type 0} {P Q : A → Type 0} (r : Result A E) → ((a : A) → P a → Q a) → IfOk r P → IfOk r Q
property_of_ok_result_is_weakened (Ok a) more p = more a p
property_of_ok_result_is_weakened (Err e) more p = tt

pub mapped_nonempty_list_is_not_empty : {X Y : Type 0} (f : X → Y) (xs : List X) (b : Bool) → b ≡ (length xs == 0) → b ≡ false → map f xs ≡ [] → ⊥
mapped_nonempty_list_is_not_empty f [] b e n m = false≢true (sym n ∙ e)
mapped_nonempty_list_is_not_empty f (x ∷ xs) b e n m = absurd cc

module _ (lines : List Line) (target : Person) where
  -- what the verdict of the list of groups comes to
  pub group_permits : ((verdict other : Verdict) (g : Group) (ms : List Member) → IsListVerdict Runas lines (is_runas_group_atom_match g) ms verdict → IsListVerdict Runas lines (is_runas_group_atom_match g) ms other → verdict ≡ other)
      → (g : Group) (ms : List Member) (hit : Option MemberHit) (v : Verdict) → IsLastHitOfList Runas lines (is_runas_group_atom_match g) ms hit → v ≡ verdict_of_hit hit
      → (allowed : Bool) → allowed ≡ is_allowed_by_verdict_or_own_group v (is_group_absent_or_among target.groups (Some g)) → DecidesWhetherRunasGroupsAllow lines target (Some g) ms allowed
  group_permits one g ms hit v l e true is = (v, record { hit = hit; is_latest = l; says = e }, sym is)
  group_permits one g ms hit v l e false is = λ a.
      false≢true (is ∙ ap (λ x. is_allowed_by_verdict_or_own_group x (is_group_absent_or_among target.groups (Some g))) (one v a.0 g ms (record { hit = hit; is_latest = l; says = e }) a.1) ∙ a.2)

  module _ (who : Who) (group : Option Group) where
    both : (a b : Bool) → a && b ≡ true → (a ≡ true) × (b ≡ true)
    both true b e = (refl, e)
    both false b e = absurd (false≢true e)

    -- without a Runas_Spec
    pub default_permits : (name : List ℕ) → IsRunasDefault lines who name → (own allowed : Bool) → own ≡ is_group_absent_or_among target.groups group
        → allowed ≡ own && is_name_equal_ignoring_case name target.name → DecidesWhetherRunasSpecAllows lines who target group None allowed
    default_permits name d own true is e =
        let two = both own (is_name_equal_ignoring_case name target.name) (sym e) in
        (name, d, two.1, sym is ∙ two.0)
    default_permits name d own false is e = λ a.
        let same : is_name_equal_ignoring_case name target.name ≡ true = ap (λ n. is_name_equal_ignoring_case n target.name) (runas_default_is_unique lines who name a.0 d a.1) ∙ a.2 in
        let is_own : own ≡ true = is ∙ a.3 in
        false≢true (e ∙ ap (λ b. b && is_name_equal_ignoring_case name target.name) is_own ∙ same)

    abbrev Says : List Member → List Member → Bool → Type 0
    Says us gs allowed = DecidesWhetherRunasSpecAllows lines who target group (Some (record { users = us; groups = gs })) allowed

    pub other_user : (us gs : List Member) → us ≡ [] → (target.uid ≡ who.user.uid → ⊥) → Says us gs false
    other_user [] [] e n = λ a. n a.0
    other_user [] (g ∷ gs) e n = λ a. n a.0
    other_user (u ∷ us) gs e n = absurd cc

    pub same_user : (us gs : List Member) → us ≡ [] → gs ≡ [] → target.uid ≡ who.user.uid → (allowed : Bool) → allowed ≡ is_group_absent_or_among who.user.groups group → Says us gs allowed
    same_user [] [] e f same true is = (same, sym is)
    same_user [] [] e f same false is = λ a. false≢true (is ∙ a.1)
    same_user [] (g ∷ gs) e f same allowed is = absurd cc
    same_user (u ∷ us) gs e f same allowed is = absurd cc

    pub user_with_group : (us gs : List Member) → us ≡ [] → (gs ≡ [] → ⊥) → target.uid ≡ who.user.uid → (allowed : Bool) → DecidesWhetherRunasGroupsAllow lines target group gs allowed → Says us gs allowed
    user_with_group [] [] e n same allowed p = absurd (n refl)
    user_with_group [] (g ∷ gs) e n same true p = (same, p)
    user_with_group [] (g ∷ gs) e n same false p = λ a. p a.1
    user_with_group (u ∷ us) gs e n same allowed p = absurd cc

    pub no_target : (us gs : List Member) → (us ≡ [] → ⊥) → DecidesWhetherListAllows Runas lines (is_user_atom_match target) us false → Says us gs false
    no_target [] gs n p = absurd (n refl)
    no_target (u ∷ us) [] n p = λ a. p a.0
    no_target (u ∷ us) (g ∷ gs) n p = λ a. p a.0

    pub target_alone : (us gs : List Member) → (us ≡ [] → ⊥) → gs ≡ [] → DecidesWhetherListAllows Runas lines (is_user_atom_match target) us true → (allowed : Bool) → allowed ≡ is_group_absent_or_among target.groups group → Says us gs allowed
    target_alone [] gs n e p allowed is = absurd (n refl)
    target_alone (u ∷ us) [] n e p true is = (p, sym is)
    target_alone (u ∷ us) [] n e p false is = λ a. false≢true (is ∙ a.1)
    target_alone (u ∷ us) (g ∷ gs) n e p allowed is = absurd cc

    pub target_with_group : (us gs : List Member) → (us ≡ [] → ⊥) → (gs ≡ [] → ⊥) → DecidesWhetherListAllows Runas lines (is_user_atom_match target) us true → (allowed : Bool) → DecidesWhetherRunasGroupsAllow lines target group gs allowed → Says us gs allowed
    target_with_group [] gs n o p allowed q = absurd (n refl)
    target_with_group (u ∷ us) [] n o p allowed q = absurd (o refl)
    target_with_group (u ∷ us) (g ∷ gs) n o p true q = (p, q)
    target_with_group (u ∷ us) (g ∷ gs) n o p false q = λ a. q a.1

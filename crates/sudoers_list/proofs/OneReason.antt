-- The rule that decides hides one member, and a request has one reason.
use Rattle.std.proofs.Common.{◌≡◌, ◌⊎◌, inl, inr, Bool, ℕ, List, Option, Some, None, refl, sym, ap, ap₂, subst, ◌∙◌}
use Rattle.std.proofs.lemmas.Option.{same_Some}
use Rattle.sudoers_grammar.specs.declared.node.Atom.{Atom}
use Rattle.sudoers_grammar.specs.declared.node.Atom.TheVariants.{Alias}
use Rattle.sudoers_grammar.specs.declared.node.Kind.TheVariants.{Cmnd}
use Rattle.sudoers_grammar.specs.Node.{Member}
use Rattle.sudoers_tree.specs.Line.{Line}
use Rattle.sudoers_tree.specs.Load.{LoadedPolicy}
use Rattle.sudoers_check.specs.Chain.{IsReachedByChainOfSteps, here, onward}
use Rattle.sudoers_match_member.specs.declared.people_and_commands.Who.{Who}
use Rattle.sudoers_match_member.specs.declared.request.Request.{Request}
use Rattle.sudoers_match_list.specs.Flat.{alias_members_of_atom}
use Rattle.sudoers_match.specs.Answer.{Answer}
use Rattle.sudoers_match.specs.Default.{IsRunasDefault}
use Rattle.sudoers_match.specs.Last.{IsLastItemWith}
use Rattle.sudoers_match.proofs.Lasts.{last_one}
use Rattle.sudoers_list.specs.Inner.{IsDecidingMemberOfAlias, InnerAliasMember, IsDecidingAliasMember, IsInnermostDecidingMember, DecidingMemberOfAliasNamesOtherAlias, MemberMatchesCommand}
use Rattle.sudoers_list.specs.Reason.{IsAliasMemberOfRule, IsReasonTextByTest, IsReasonByDecidingRule, IsReasonOfAnswer, rule_text_with_alias_member}
use Rattle.sudoers_list.specs.Rule.{DecidingRuleOnLine, deciding_rule}

-- ---- chains whose steps lead to one thing

module _ {X : Type 0} (Step : X → X → Type 0) where
  -- A chain has no step, or a first one.
  pub first_step : (x y : X) → IsReachedByChainOfSteps Step (λ z. x ≡ z) y → (x ≡ y) ⊎ ((z : X) × Step x z × IsReachedByChainOfSteps Step (λ w. z ≡ w) y)
  first_step x y (here z e) = inl e
  first_step x y (onward z w c s) = by (first_step x z c)
    where
      by : (x ≡ z) ⊎ ((v : X) × Step x v × IsReachedByChainOfSteps Step (λ u. v ≡ u) z) → (x ≡ w) ⊎ ((v : X) × Step x v × IsReachedByChainOfSteps Step (λ u. v ≡ u) w)
      by (inl e) = inr (w, subst (λ v. Step v w) (sym e) s, here w refl)
      by (inr r) = inr (r.0, r.1, onward z w r.2 s)

  module _ (one_step : (x y z : X) → Step x y → Step x z → y ≡ z) where
    -- Of two chains from one thing, one goes on with the other.
    pub one_way : (x y z : X) → IsReachedByChainOfSteps Step (λ w. x ≡ w) y → IsReachedByChainOfSteps Step (λ w. x ≡ w) z → IsReachedByChainOfSteps Step (λ w. y ≡ w) z ⊎ IsReachedByChainOfSteps Step (λ w. z ≡ w) y
    one_way x y z c (here w e) = inr (subst (λ v. IsReachedByChainOfSteps Step (λ u. v ≡ u) y) e c)
    one_way x y z c (onward v w d s) = by (one_way x y v c d)
      where
        go : (v ≡ y) ⊎ ((u : X) × Step v u × IsReachedByChainOfSteps Step (λ t. u ≡ t) y) → IsReachedByChainOfSteps Step (λ u. y ≡ u) w ⊎ IsReachedByChainOfSteps Step (λ u. w ≡ u) y
        go (inl e) = inl (onward y w (here y refl) (subst (λ u. Step u w) e s))
        go (inr r) = inr (subst (λ u. IsReachedByChainOfSteps Step (λ t. u ≡ t) y) (one_step v r.0 w r.1 s) r.2)

        by : IsReachedByChainOfSteps Step (λ u. y ≡ u) v ⊎ IsReachedByChainOfSteps Step (λ u. v ≡ u) y → IsReachedByChainOfSteps Step (λ u. y ≡ u) w ⊎ IsReachedByChainOfSteps Step (λ u. w ≡ u) y
        by (inl a) = inl (onward v w a s)
        by (inr b) = go (first_step v y b)

-- ---- members that decide

module _ (lines : List Line) (test : Atom → Bool) where
  one_decides : (name : List ℕ) (m n : Member) → IsDecidingMemberOfAlias lines test name m → IsDecidingMemberOfAlias lines test name n → m ≡ n
  one_decides name m n a b =
      let same : a.members ≡ b.members = same_Some a.members b.members (sym a.are_members ∙ b.are_members) in
      same_Some m n (last_one (MemberMatchesCommand lines test) b.members (Some m) (Some n) (subst (λ ms. IsLastItemWith (MemberMatchesCommand lines test) ms (Some m)) same a.is_last) b.is_last)

  one_leads : (name a b : List ℕ) → DecidingMemberOfAliasNamesOtherAlias lines test name a → DecidingMemberOfAliasNamesOtherAlias lines test name b → a ≡ b
  one_leads name a b p q =
      let same : p.0 ≡ q.0 = one_decides name p.0 q.0 p.1 q.1 in
      let atoms : Alias a ≡ Alias b = sym p.2 ∙ ap (λ (m : Member). m.atom) same ∙ q.2 in
      cc

  -- A member decides at each place of a chain at whose end one does.
  decides_first : (name other : List ℕ) (m : Member) → IsReachedByChainOfSteps (DecidingMemberOfAliasNamesOtherAlias lines test) (λ x. name ≡ x) other → IsDecidingMemberOfAlias lines test other m
      → (n : Member) × IsDecidingMemberOfAlias lines test name n
  decides_first name other m c d = by (first_step (DecidingMemberOfAliasNamesOtherAlias lines test) name other c)
    where
      by : (name ≡ other) ⊎ ((z : List ℕ) × DecidingMemberOfAliasNamesOtherAlias lines test name z × IsReachedByChainOfSteps (DecidingMemberOfAliasNamesOtherAlias lines test) (λ w. z ≡ w) other) → (n : Member) × IsDecidingMemberOfAlias lines test name n
      by (inl e) = (m, subst (λ x. IsDecidingMemberOfAlias lines test x m) (sym e) d)
      by (inr r) = (r.1.0, r.1.1)

  -- No alias is defined that the member names which decides in the end.
  at_end : (a b : InnerAliasMember) → IsDecidingMemberOfAlias lines test a.name a.member → alias_members_of_atom Cmnd lines a.member.atom ≡ None
      → IsReachedByChainOfSteps (DecidingMemberOfAliasNamesOtherAlias lines test) (λ x. a.name ≡ x) b.name → IsDecidingMemberOfAlias lines test b.name b.member → a.name ≡ b.name
  at_end a b d none c e = by (first_step (DecidingMemberOfAliasNamesOtherAlias lines test) a.name b.name c)
    where
      by : (a.name ≡ b.name) ⊎ ((z : List ℕ) × DecidingMemberOfAliasNamesOtherAlias lines test a.name z × IsReachedByChainOfSteps (DecidingMemberOfAliasNamesOtherAlias lines test) (λ w. z ≡ w) b.name) → a.name ≡ b.name
      by (inl same) = same
      by (inr r) =
          let m : a.member ≡ r.1.0 = one_decides a.name a.member r.1.0 d r.1.1 in
          let next = decides_first r.0 b.name b.member r.2 e in
          let some : alias_members_of_atom Cmnd lines a.member.atom ≡ Some next.1.members =
          ap (alias_members_of_atom Cmnd lines) (ap (λ (x : Member). x.atom) m ∙ r.1.2) ∙ next.1.are_members in
          let clash : None ≡ Some next.1.members = sym none ∙ some in
          absurd cc

  one_innermost : (outer : List ℕ) (a b : InnerAliasMember) → IsInnermostDecidingMember lines test outer a → IsInnermostDecidingMember lines test outer b → a ≡ b
  one_innermost outer a b p q =
      let name : a.name ≡ b.name = by (one_way (DecidingMemberOfAliasNamesOtherAlias lines test) one_leads outer a.name b.name p.reached q.reached) in
      let member : a.member ≡ b.member = one_decides b.name a.member b.member (subst (λ x. IsDecidingMemberOfAlias lines test x a.member) name p.decides) q.decides in
      ap₂ (λ (n : List ℕ) (m : Member). record { name = n; member = m }) name member
    where
      by : IsReachedByChainOfSteps (DecidingMemberOfAliasNamesOtherAlias lines test) (λ x. a.name ≡ x) b.name ⊎ IsReachedByChainOfSteps (DecidingMemberOfAliasNamesOtherAlias lines test) (λ x. b.name ≡ x) a.name → a.name ≡ b.name
      by (inl c) = at_end a b p.decides p.no_alias c q.decides
      by (inr c) = sym (at_end b a q.decides q.no_alias c p.decides)

  no_inner : (m : Member) (outer : List ℕ) (inner : InnerAliasMember) → alias_members_of_atom Cmnd lines m.atom ≡ None → m.atom ≡ Alias outer → IsInnermostDecidingMember lines test outer inner → ⊥
  no_inner m outer inner none names is =
      let d = decides_first outer inner.name inner.member is.reached is.decides in
      let some : alias_members_of_atom Cmnd lines m.atom ≡ Some d.1.members = ap (alias_members_of_atom Cmnd lines) names ∙ d.1.are_members in
      let clash : None ≡ Some d.1.members = sym none ∙ some in
      cc

  one_inner : (m : Member) (a b : Option InnerAliasMember) → IsDecidingAliasMember lines test m a → IsDecidingAliasMember lines test m b → a ≡ b
  one_inner m None None p q = refl
  one_inner m None (Some b) p q = absurd (no_inner m q.0 b p q.1 q.2)
  one_inner m (Some a) None p q = absurd (no_inner m p.0 a q p.1 p.2)
  one_inner m (Some a) (Some b) p q =
      let atoms : Alias p.0 ≡ Alias q.0 = sym p.1 ∙ q.1 in
      let outer : p.0 ≡ q.0 = cc in
      ap Some (one_innermost q.0 a b (subst (λ x. IsInnermostDecidingMember lines test x a) outer p.2) q.2)

-- ---- reasons

alias_member_of_rule_is_unique : (lines : List Line) (test : Atom → Bool) (o : Option DecidingRuleOnLine) (a b : Option InnerAliasMember) → IsAliasMemberOfRule lines test o a → IsAliasMemberOfRule lines test o b → a ≡ b
alias_member_of_rule_is_unique lines test None a b p q = p ∙ sym q
alias_member_of_rule_is_unique lines test (Some rule) a b p q = one_inner lines test rule.command.member a b p q

reason_by_deciding_rule_is_unique : (policy : LoadedPolicy) (test : Atom → Bool) (r : Request) (d : List ℕ) (a : Answer) (t u : List ℕ) → IsReasonByDecidingRule policy test r d a t → IsReasonByDecidingRule policy test r d a u → t ≡ u
reason_by_deciding_rule_is_unique policy test r d a t u p q =
    let rule = deciding_rule policy.walk.lines a in
    p.says
    ∙ ap (λ inner. rule_text_with_alias_member policy r.who.user.name d a.allow inner rule) (alias_member_of_rule_is_unique policy.walk.lines test rule p.inner q.inner p.is_inner q.is_inner)
    ∙ sym q.says

reason_of_answer_is_unique : (policy : LoadedPolicy) (test : Atom → Bool) (r : Request) (d : List ℕ) (answer : Option Answer) (t u : List ℕ) → IsReasonOfAnswer policy test r d answer t → IsReasonOfAnswer policy test r d answer u → t ≡ u
reason_of_answer_is_unique policy test r d None t u p q = p ∙ sym q
reason_of_answer_is_unique policy test r d (Some a) t u p q = reason_by_deciding_rule_is_unique policy test r d a t u p q

pub reason_text_is_unique : ((lines : List Line) (who : Who) (name other : List ℕ) → IsRunasDefault lines who name → IsRunasDefault lines who other → name ≡ other)
    → (policy : LoadedPolicy) (test : Atom → Bool) (r : Request) (answer : Option Answer) (t u : List ℕ) → IsReasonTextByTest policy test r answer t → IsReasonTextByTest policy test r answer u → t ≡ u
reason_text_is_unique one_default policy test r answer t u a b =
    let d : a.default ≡ b.default = one_default policy.walk.lines r.who a.default b.default a.is_default b.is_default in
    reason_of_answer_is_unique policy test r b.default answer t u (subst (λ x. IsReasonOfAnswer policy test r x answer t) d a.tells) b.tells

-- Lists of definitions of which one is without a member that is not the first.
use Rattle.std.proofs.Common.{◌≡◌, ℕ, zero, suc, ◌<◌, List, [], ◌∷◌, ◌++◌, length, refl, sym, ap, subst, ◌∙◌, append_assoc, Some, slice_get}
use Rattle.std.specs.Prelude.{remove}
use Rattle.sudoers_grammar.specs.declared.node.Kind.{Kind}
use Rattle.sudoers_grammar.specs.declared.node.Kind.TheVariants.{User, Runas, Host, Cmnd}
use Rattle.sudoers_grammar.specs.Node.{Member, Def}
use Rattle.sudoers_grammar.specs.Piece.{TokenWithBytes}
use Rattle.sudoers_grammar.specs.Grammar.{Many, MarkThenRule, Separated, IsMember, IsAliasMemberList, stop_of_last_member, IsDef}
use Rattle.sudoers_edit.specs.internal.LineCuts.{stop_of_item_at}
use Rattle.sudoers_edit.proofs.TokenFronts.{AreAlike, AreTokensAlike, EndsAt, AreSplitAlike, alike_tokens_split, join_ends_where_second_part_does, TakesFront, TakesFronts, alike_mark_is_mark, mark_and_rule_take_fronts, TakesManyFronts, repeated_rule_takes_fronts, AtomsAreAlikeThemselves, AreMembersAlike, stop_of_member, word_members_take_fronts}
use Rattle.sudoers_edit.proofs.FrontLists.{IsKindOfWords, alike_token_is_alias_name}
use Rattle.sudoers_edit.proofs.TokenCuts.{CanSwapTokens, CanLoseTokens, separated_items_lose_item}

-- Each item is like that at its place but for the one at a place, in whose place stands a good one.
abbrev pub AreAlikeButOne : {X : Type 0} → (X → X → Type 0) → (X → Type 0) → ℕ → List X → List X → Type 0
AreAlikeButOne A Good at [] ys = ⊥
AreAlikeButOne A Good at (x ∷ xs) [] = ⊥
AreAlikeButOne A Good zero (x ∷ xs) (y ∷ ys) = Good y × AreAlike A xs ys
AreAlikeButOne A Good (suc at) (x ∷ xs) (y ∷ ys) = A x y × AreAlikeButOne A Good at xs ys

-- a rule of which tokens can go, behind a mark
mark_and_rule_lose_tokens : {X : Type 0} (limit b : ℕ) (new : List TokenWithBytes) (Gone : List TokenWithBytes → Type 0) (P : List TokenWithBytes → X → List TokenWithBytes → Type 0) (Good : X → Type 0) (from : ℕ) (x : X)
    → ((ts rest : List TokenWithBytes) → P ts x rest → CanSwapTokens limit new Gone P Good from ts rest) → (ts rest : List TokenWithBytes) → MarkThenRule b P ts x rest
    → CanSwapTokens limit new Gone (MarkThenRule b P) Good from ts rest
mark_and_rule_lose_tokens {X} limit b new Gone P Good from x lose ts rest is =
    let c = lose is.behind rest is.is in
    record {
      left = is.mark ∷ c.left;
      gone = c.gone;
      right = c.right;
      split = is.split ∙ ap (λ (us : List TokenWithBytes). is.mark ∷ us) c.split;
      begins = join_ends_where_second_part_does (is.mark ∷ []) c.left from c.begins;
      gone_is = c.gone_is;
      again = again c;
    }
  where
    again : (c : CanSwapTokens limit new Gone P Good from is.behind rest) (us ws vs : List TokenWithBytes) → AreTokensAlike limit (is.mark ∷ c.left) us → AreTokensAlike limit c.right ws
        → (y : X) × MarkThenRule b P (us ++ (new ++ (ws ++ vs))) y vs × Good y
    again c [] ws vs alike more = absurd alike
    again c (u ∷ us) ws vs alike more =
        let y = c.again us ws vs alike.1 more in
        (y.0, record { mark = u; behind = us ++ (new ++ (ws ++ vs)); split = refl; is_mark = alike_mark_is_mark limit b is.mark u alike.0 is.is_mark; is = y.1 }, y.2)

-- Tokens of the first item go, and others follow.
first_item_loses_tokens : {X : Type 0} (limit : ℕ) (new : List TokenWithBytes) (Gone : List TokenWithBytes → Type 0) (P Q : List TokenWithBytes → X → List TokenWithBytes → Type 0) (A : X → X → Type 0) (stop : X → ℕ) (Good : X → Type 0) (from : ℕ) (x : X) (xs : List X)
    (ts behind rest : List TokenWithBytes) → CanSwapTokens limit new Gone P Good from ts behind → TakesManyFronts limit Q A stop behind xs rest
    → CanSwapTokens limit new Gone (λ us ys vs. (z : X) × (zs : List X) × (between : List TokenWithBytes) × (ys ≡ z ∷ zs) × P us z between × Many Q between zs vs) (AreAlikeButOne A Good 0 (x ∷ xs)) from ts rest
first_item_loses_tokens {X} limit new Gone P Q A stop Good from x xs ts behind rest c g = record {
  left = c.left;
  gone = c.gone;
  right = c.right ++ g.front;
  split =
      c.split ∙ ap (λ (us : List TokenWithBytes). c.left ++ (c.gone ++ us)) (ap (λ (us : List TokenWithBytes). c.right ++ us) g.split ∙ sym (append_assoc c.right g.front rest));
  begins = c.begins;
  gone_is = c.gone_is;
  again = λ us ws vs alike more. again us (alike_tokens_split limit c.right g.front ws more) vs alike;
}
  where
    again : (us : List TokenWithBytes) {ws : List TokenWithBytes} (s : AreSplitAlike limit c.right g.front ws) (vs : List TokenWithBytes) → AreTokensAlike limit c.left us
        → (ys : List X) × ((z : X) × (zs : List X) × (between : List TokenWithBytes) × (ys ≡ z ∷ zs) × P (us ++ (new ++ (ws ++ vs))) z between × Many Q between zs vs) × AreAlikeButOne A Good 0 (x ∷ xs) ys
    again us {ws} s vs alike =
        let z = c.again us s.first (s.second ++ vs) alike s.one in
        let zs = g.again s.second vs s.other in
        let split : us ++ (new ++ (ws ++ vs)) ≡ us ++ (new ++ (s.first ++ (s.second ++ vs))) =
        ap (λ (os : List TokenWithBytes). us ++ (new ++ os)) (ap (λ (os : List TokenWithBytes). os ++ vs) s.split ∙ append_assoc s.first s.second vs) in
        (z.0 ∷ zs.0, (z.0, zs.0, s.second ++ vs, refl, subst (λ (os : List TokenWithBytes). P os z.0 (s.second ++ vs)) (sym split) z.1, zs.1), (z.2, zs.2))

repeated_rule_loses_tokens_of_item : {X : Type 0} (limit : ℕ) (new : List TokenWithBytes) (Gone : List TokenWithBytes → Type 0) (P : List TokenWithBytes → X → List TokenWithBytes → Type 0) (A : X → X → Type 0) (stop : X → ℕ) (Good : X → Type 0) (from : ℕ)
    → TakesFronts limit P A stop → (x : X) → ((ts rest : List TokenWithBytes) → P ts x rest → CanSwapTokens limit new Gone P Good from ts rest)
    → (at : ℕ) (xs : List X) (ts rest : List TokenWithBytes) → slice_get xs at ≡ Some x → Many P ts xs rest
    → CanSwapTokens limit new Gone (Many P) (AreAlikeButOne A Good at xs) from ts rest
repeated_rule_loses_tokens_of_item {X} limit new Gone P A stop Good from takes x lose at [] ts rest here is = absurd (cc)
repeated_rule_loses_tokens_of_item {X} limit new Gone P A stop Good from takes x lose zero (y ∷ xs) ts rest here is =
    let same : y ≡ x = cc in
    let c = first_item_loses_tokens limit new Gone P P A stop Good from y xs ts is.0 rest (lose ts is.0 (subst (λ (z : X). P ts z is.0) same is.1))
    (repeated_rule_takes_fronts limit P A stop takes xs is.0 rest is.2) in
    record {
      left = c.left;
      gone = c.gone;
      right = c.right;
      split = c.split;
      begins = c.begins;
      gone_is = c.gone_is;
      again = λ us ws vs alike more. again (us ++ (new ++ (ws ++ vs))) vs (c.again us ws vs alike more);
    }
  where
    again : (os vs : List TokenWithBytes)
        → ((ys : List X) × ((z : X) × (zs : List X) × (between : List TokenWithBytes) × (ys ≡ z ∷ zs) × P os z between × Many P between zs vs) × AreAlikeButOne A Good 0 (y ∷ xs) ys)
        → (ys : List X) × Many P os ys vs × AreAlikeButOne A Good 0 (y ∷ xs) ys
    again os vs z = (z.0, subst (λ (ys : List X). Many P os ys vs) (sym z.1.3) (z.1.2, z.1.4, z.1.5), z.2)
repeated_rule_loses_tokens_of_item {X} limit new Gone P A stop Good from takes x lose (suc at) (y ∷ xs) ts rest here is =
    let f = takes ts y is.0 is.1 in
    let c = repeated_rule_loses_tokens_of_item limit new Gone P A stop Good from takes x lose at xs is.0 rest here is.2 in
    record {
      left = f.front ++ c.left;
      gone = c.gone;
      right = c.right;
      split = f.split ∙ ap (λ (us : List TokenWithBytes). f.front ++ us) c.split ∙ sym (append_assoc f.front c.left (c.gone ++ (c.right ++ rest)));
      begins = join_ends_where_second_part_does f.front c.left from c.begins;
      gone_is = c.gone_is;
      again = λ us ws vs alike more. again f c (alike_tokens_split limit f.front c.left us alike) ws vs more;
    }
  where
    again : {behind : List TokenWithBytes} (f : TakesFront limit P A stop ts y behind) (c : CanSwapTokens limit new Gone (Many P) (AreAlikeButOne A Good at xs) from behind rest) {us : List TokenWithBytes}
        (s : AreSplitAlike limit f.front c.left us) (ws vs : List TokenWithBytes) → AreTokensAlike limit c.right ws
        → (ys : List X) × Many P (us ++ (new ++ (ws ++ vs))) ys vs × AreAlikeButOne A Good (suc at) (y ∷ xs) ys
    again f c {us} s ws vs more =
        let z = f.again s.first (s.second ++ (new ++ (ws ++ vs))) s.one in
        let zs = c.again s.second ws vs s.other more in
        let split : us ++ (new ++ (ws ++ vs)) ≡ s.first ++ (s.second ++ (new ++ (ws ++ vs))) = ap (λ (os : List TokenWithBytes). os ++ (new ++ (ws ++ vs))) s.split ∙ append_assoc s.first s.second (new ++ (ws ++ vs)) in
        (z.0 ∷ zs.0, subst (λ (os : List TokenWithBytes). Many P os (z.0 ∷ zs.0) vs) (sym split) (s.second ++ (new ++ (ws ++ vs)), z.1, zs.1), (z.2, zs.2))

pub separated_items_lose_tokens_of_item : {X : Type 0} (limit b : ℕ) (new : List TokenWithBytes) (Gone : List TokenWithBytes → Type 0) (P : List TokenWithBytes → X → List TokenWithBytes → Type 0) (A : X → X → Type 0) (stop : X → ℕ) (Good : X → Type 0) (from : ℕ)
    → TakesFronts limit P A stop → (x : X) → ((ts rest : List TokenWithBytes) → P ts x rest → CanSwapTokens limit new Gone P Good from ts rest)
    → (at : ℕ) (xs : List X) (ts rest : List TokenWithBytes) → slice_get xs at ≡ Some x → Separated b P ts xs rest
    → CanSwapTokens limit new Gone (Separated b P) (AreAlikeButOne A Good at xs) from ts rest
separated_items_lose_tokens_of_item {X} limit b new Gone P A stop Good from takes x lose at [] ts rest here is = absurd is
separated_items_lose_tokens_of_item {X} limit b new Gone P A stop Good from takes x lose zero (y ∷ xs) ts rest here is =
    let same : y ≡ x = cc in
    let c = first_item_loses_tokens limit new Gone P (MarkThenRule b P) A stop Good from y xs ts is.0 rest (lose ts is.0 (subst (λ (z : X). P ts z is.0) same is.1))
    (repeated_rule_takes_fronts limit (MarkThenRule b P) A stop (mark_and_rule_take_fronts limit b P A stop takes) xs is.0 rest is.2) in
    record {
      left = c.left;
      gone = c.gone;
      right = c.right;
      split = c.split;
      begins = c.begins;
      gone_is = c.gone_is;
      again = λ us ws vs alike more. again (us ++ (new ++ (ws ++ vs))) vs (c.again us ws vs alike more);
    }
  where
    again : (os vs : List TokenWithBytes)
        → ((ys : List X) × ((z : X) × (zs : List X) × (between : List TokenWithBytes) × (ys ≡ z ∷ zs) × P os z between × Many (MarkThenRule b P) between zs vs) × AreAlikeButOne A Good 0 (y ∷ xs) ys)
        → (ys : List X) × Separated b P os ys vs × AreAlikeButOne A Good 0 (y ∷ xs) ys
    again os vs z = (z.0, subst (λ (ys : List X). Separated b P os ys vs) (sym z.1.3) (z.1.2, z.1.4, z.1.5), z.2)
separated_items_lose_tokens_of_item {X} limit b new Gone P A stop Good from takes x lose (suc at) (y ∷ xs) ts rest here is =
    let f = takes ts y is.0 is.1 in
    let c = repeated_rule_loses_tokens_of_item limit new Gone (MarkThenRule b P) A stop Good from (mark_and_rule_take_fronts limit b P A stop takes) x
    (mark_and_rule_lose_tokens limit b new Gone P Good from x lose) at xs is.0 rest here is.2 in
    record {
      left = f.front ++ c.left;
      gone = c.gone;
      right = c.right;
      split = f.split ∙ ap (λ (us : List TokenWithBytes). f.front ++ us) c.split ∙ sym (append_assoc f.front c.left (c.gone ++ (c.right ++ rest)));
      begins = join_ends_where_second_part_does f.front c.left from c.begins;
      gone_is = c.gone_is;
      again = λ us ws vs alike more. again f c (alike_tokens_split limit f.front c.left us alike) ws vs more;
    }
  where
    again : {behind : List TokenWithBytes} (f : TakesFront limit P A stop ts y behind) (c : CanSwapTokens limit new Gone (Many (MarkThenRule b P)) (AreAlikeButOne A Good at xs) from behind rest)
        {us : List TokenWithBytes} (s : AreSplitAlike limit f.front c.left us) (ws vs : List TokenWithBytes) → AreTokensAlike limit c.right ws
        → (ys : List X) × Separated b P (us ++ (new ++ (ws ++ vs))) ys vs × AreAlikeButOne A Good (suc at) (y ∷ xs) ys
    again f c {us} s ws vs more =
        let z = f.again s.first (s.second ++ (new ++ (ws ++ vs))) s.one in
        let zs = c.again s.second ws vs s.other more in
        let split : us ++ (new ++ (ws ++ vs)) ≡ s.first ++ (s.second ++ (new ++ (ws ++ vs))) = ap (λ (os : List TokenWithBytes). os ++ (new ++ (ws ++ vs))) s.split ∙ append_assoc s.first s.second (new ++ (ws ++ vs)) in
        (z.0 ∷ zs.0, subst (λ (os : List TokenWithBytes). Separated b P os (z.0 ∷ zs.0) vs) (sym split) (s.second ++ (new ++ (ws ++ vs)), z.1, zs.1), (z.2, zs.2))

-- ---- a definition without a member

-- a definition of this name, whose members are like these
abbrev pub HasNameAndMembers : ℕ → List ℕ → List Member → Def → Type 0
HasNameAndMembers limit name members e = (e.name ≡ name) × AreAlike (AreMembersAlike limit) members e.members

alias_members_lose_member : AtomsAreAlikeThemselves → (limit : ℕ) (k : Kind) → IsKindOfWords k → (at : ℕ) (members : List Member) (ts rest : List TokenWithBytes) → suc at < length members → IsAliasMemberList k ts members rest
    → CanLoseTokens limit (IsAliasMemberList k) (AreAlike (AreMembersAlike limit) (remove members (suc at))) (stop_of_item_at stop_of_member members at) (stop_of_item_at stop_of_member members (suc at)) ts rest
alias_members_lose_member self limit User words at members ts rest inside is =
    separated_items_lose_item limit 44 (IsMember User) (AreMembersAlike limit) stop_of_member (word_members_take_fronts self limit User) at members ts rest inside is
alias_members_lose_member self limit Runas words at members ts rest inside is =
    separated_items_lose_item limit 44 (IsMember Runas) (AreMembersAlike limit) stop_of_member (word_members_take_fronts self limit Runas) at members ts rest inside is
alias_members_lose_member self limit Host words at members ts rest inside is =
    separated_items_lose_item limit 44 (IsMember Host) (AreMembersAlike limit) stop_of_member (word_members_take_fronts self limit Host) at members ts rest inside is
alias_members_lose_member self limit Cmnd words at members ts rest inside is = absurd words

-- a definition of whose members tokens can go
pub definition_swaps_tokens_of_members : (limit : ℕ) (new : List TokenWithBytes) (Gone : List TokenWithBytes → Type 0) (k : Kind) (Good : List Member → Type 0) (from : ℕ) (d : Def)
    → ((ts rest : List TokenWithBytes) → IsAliasMemberList k ts d.members rest → CanSwapTokens limit new Gone (IsAliasMemberList k) Good from ts rest)
    → (ts rest : List TokenWithBytes) → IsDef k ts d rest → CanSwapTokens limit new Gone (IsDef k) (λ (e : Def). (e.name ≡ d.name) × Good e.members) from ts rest
definition_swaps_tokens_of_members limit new Gone k Good from d lose ts rest is =
    let c = lose is.behind rest is.members in
    record {
      left = is.name ∷ is.equals ∷ c.left;
      gone = c.gone;
      right = c.right;
      split = is.split ∙ ap (λ (us : List TokenWithBytes). is.name ∷ is.equals ∷ us) c.split;
      begins = join_ends_where_second_part_does (is.name ∷ is.equals ∷ []) c.left from c.begins;
      gone_is = c.gone_is;
      again = again c;
    }
  where
    again : (c : CanSwapTokens limit new Gone (IsAliasMemberList k) Good from is.behind rest) (us ws vs : List TokenWithBytes) → AreTokensAlike limit (is.name ∷ is.equals ∷ c.left) us
        → AreTokensAlike limit c.right ws → (e : Def) × IsDef k (us ++ (new ++ (ws ++ vs))) e vs × ((e.name ≡ d.name) × Good e.members)
    again c [] ws vs alike more = absurd alike
    again c (u ∷ []) ws vs alike more = absurd alike.1
    again c (u ∷ v ∷ us) ws vs alike more =
        let ms = c.again us ws vs alike.1.1 more in
        let e : Def = record { name = u.text; start = u.start; stop = stop_of_last_member ms.0; members = ms.0 } in (
          e,
          record {
            name = u;
            equals = v;
            behind = us ++ (new ++ (ws ++ vs));
            split = refl;
            is_name = alike_token_is_alias_name limit is.name u alike.0 is.is_name;
            is_equals = alike_mark_is_mark limit 61 is.equals v alike.1.0 is.is_equals;
            members = ms.1;
            same_name = refl;
            start = refl;
            stop = refl;
          },
          (alike.0.text ∙ sym is.same_name, ms.2),
        )

pub definition_loses_member : AtomsAreAlikeThemselves → (limit : ℕ) (k : Kind) → IsKindOfWords k → (at : ℕ) (d : Def) → suc at < length d.members → (ts rest : List TokenWithBytes) → IsDef k ts d rest
    → CanLoseTokens limit (IsDef k) (HasNameAndMembers limit d.name (remove d.members (suc at))) (stop_of_item_at stop_of_member d.members at) (stop_of_item_at stop_of_member d.members (suc at)) ts rest
definition_loses_member self limit k words at d inside ts rest is =
    definition_swaps_tokens_of_members limit [] (λ (gone : List TokenWithBytes). EndsAt gone (stop_of_item_at stop_of_member d.members (suc at))) k (AreAlike (AreMembersAlike limit) (remove d.members (suc at)))
    (stop_of_item_at stop_of_member d.members at) d (λ us vs are. alias_members_lose_member self limit k words at d.members us vs inside are) ts rest is

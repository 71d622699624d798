-- Lists of members and definitions where tokens that are alike stand in their place.
use Rattle.std.proofs.Common.{◌≡◌, ℕ, ◌≤◌, true, List, [], ◌∷◌, ◌++◌, refl, sym, ap, subst, ◌∙◌, append_assoc}
use Rattle.sudoers_grammar.specs.declared.node.Kind.{Kind}
use Rattle.sudoers_grammar.specs.declared.node.Kind.TheVariants.{User, Runas, Host, Cmnd}
use Rattle.sudoers_grammar.specs.Node.{Member, Def}
use Rattle.sudoers_grammar.specs.Piece.{TokenWithBytes, is_alias_name}
use Rattle.sudoers_grammar.specs.Grammar.{MarkThenRule, Separated, IsMember, IsAliasMemberList, stop_of_last_member, IsDef}
use Rattle.sudoers_edit.specs.internal.LineCuts.{stop_of_def}
use Rattle.sudoers_edit.proofs.TokenFronts.{IsTokenAlike, AreAlike, AreTokensAlike, EndsAt, AreSplitAlike, alike_tokens_split, join_ends_where_second_part_does, TakesFront, TakesFronts, alike_mark_is_mark, mark_and_rule_take_fronts, AtomsAreAlikeThemselves, AreMembersAlike, stop_of_member, word_members_take_fronts, stop_of_last_item, TakesManyFronts, repeated_rule_takes_fronts}

pub separated_items_take_fronts : {X : Type 0} (limit b : ℕ) (P : List TokenWithBytes → X → List TokenWithBytes → Type 0) (A : X → X → Type 0) (stop : X → ℕ) → TakesFronts limit P A stop
    → TakesFronts limit (Separated b P) (AreAlike A) (stop_of_last_item stop)
separated_items_take_fronts {X} limit b P A stop takes ts [] rest is = absurd is
separated_items_take_fronts {X} limit b P A stop takes ts (x ∷ xs) rest is =
    let f = takes ts x is.0 is.1 in
    let g = repeated_rule_takes_fronts limit (MarkThenRule b P) A stop (mark_and_rule_take_fronts limit b P A stop takes) xs is.0 rest is.2 in
    record {
      front = f.front ++ g.front;
      split = f.split ∙ ap (λ (us : List TokenWithBytes). f.front ++ us) g.split ∙ sym (append_assoc f.front g.front rest);
      ends = g.ends x f.front f.ends;
      again = λ us vs alike. again f g (alike_tokens_split limit f.front g.front us alike) vs;
    }
  where
    again : {behind : List TokenWithBytes} (f : TakesFront limit P A stop ts x behind) (g : TakesManyFronts limit (MarkThenRule b P) A stop behind xs rest) {us : List TokenWithBytes}
        (s : AreSplitAlike limit f.front g.front us) (vs : List TokenWithBytes) → (ys : List X) × Separated b P (us ++ vs) ys vs × AreAlike A (x ∷ xs) ys
    again f g {us} s vs =
        let y = f.again s.first (s.second ++ vs) s.one in
        let ys = g.again s.second vs s.other in
        let split : us ++ vs ≡ s.first ++ (s.second ++ vs) = ap (λ (ts : List TokenWithBytes). ts ++ vs) s.split ∙ append_assoc s.first s.second vs in
        (y.0 ∷ ys.0, subst (λ (ts : List TokenWithBytes). Separated b P ts (y.0 ∷ ys.0) vs) (sym split) (s.second ++ vs, y.1, ys.1), (y.2, ys.2))

-- a kind whose lists have words for members
abbrev pub IsKindOfWords : Kind → Type 0
IsKindOfWords User = Unit {0}
IsKindOfWords Runas = Unit {0}
IsKindOfWords Host = Unit {0}
IsKindOfWords Cmnd = ⊥

pub alias_members_take_fronts : AtomsAreAlikeThemselves → (limit : ℕ) (k : Kind) → IsKindOfWords k → TakesFronts limit (IsAliasMemberList k) (AreAlike (AreMembersAlike limit)) (stop_of_last_item stop_of_member)
alias_members_take_fronts self limit User words = separated_items_take_fronts limit 44 (IsMember User) (AreMembersAlike limit) stop_of_member (word_members_take_fronts self limit User)
alias_members_take_fronts self limit Runas words = separated_items_take_fronts limit 44 (IsMember Runas) (AreMembersAlike limit) stop_of_member (word_members_take_fronts self limit Runas)
alias_members_take_fronts self limit Host words = separated_items_take_fronts limit 44 (IsMember Host) (AreMembersAlike limit) stop_of_member (word_members_take_fronts self limit Host)
alias_members_take_fronts self limit Cmnd words = absurd words

pub last_item_is_last_member : (members : List Member) → stop_of_last_item stop_of_member members ≡ stop_of_last_member members
last_item_is_last_member [] = refl
last_item_is_last_member (m ∷ []) = refl
last_item_is_last_member (m ∷ n ∷ ms) = last_item_is_last_member (n ∷ ms)

-- two definitions of one name, whose members are alike
pub record AreDefsAlike (limit : ℕ) (d e : Def) : Type 0 where
  pub name : e.name ≡ d.name
  pub members : AreAlike (AreMembersAlike limit) d.members e.members
  pub stop : d.stop ≤ limit → e.stop ≡ d.stop

alike_members_end_alike : (limit : ℕ) (ms os : List Member) → AreAlike (AreMembersAlike limit) ms os → stop_of_last_member ms ≤ limit → stop_of_last_member os ≡ stop_of_last_member ms
alike_members_end_alike limit [] [] alike inside = refl
alike_members_end_alike limit [] (o ∷ os) alike inside = absurd alike
alike_members_end_alike limit (m ∷ ms) [] alike inside = absurd alike
alike_members_end_alike limit (m ∷ []) (o ∷ []) alike inside = alike.0.1 inside
alike_members_end_alike limit (m ∷ []) (o ∷ p ∷ os) alike inside = absurd alike.1
alike_members_end_alike limit (m ∷ n ∷ ms) (o ∷ []) alike inside = absurd alike.1
alike_members_end_alike limit (m ∷ n ∷ ms) (o ∷ p ∷ os) alike inside = alike_members_end_alike limit (n ∷ ms) (p ∷ os) alike.1 inside

pub alike_token_is_alias_name : (limit : ℕ) (t u : TokenWithBytes) → IsTokenAlike limit t u → is_alias_name t ≡ true → is_alias_name u ≡ true
unfolding is_alias_name
alike_token_is_alias_name limit t u alike h = rw (alike.kind, alike.text) h

pub definitions_take_fronts : AtomsAreAlikeThemselves → (limit : ℕ) (k : Kind) → IsKindOfWords k → TakesFronts limit (IsDef k) (AreDefsAlike limit) stop_of_def
definitions_take_fronts self limit k words ts d rest is =
    let f = alias_members_take_fronts self limit k words is.behind d.members rest is.members in
    record {
      front = is.name ∷ is.equals ∷ f.front;
      split = is.split ∙ ap (λ (us : List TokenWithBytes). is.name ∷ is.equals ∷ us) f.split;
      ends =
          join_ends_where_second_part_does (is.name ∷ is.equals ∷ []) f.front d.stop
          (subst (λ (n : ℕ). EndsAt f.front n) (last_item_is_last_member d.members ∙ sym is.stop) f.ends);
      again = again f;
    }
  where
    again : (f : TakesFront limit (IsAliasMemberList k) (AreAlike (AreMembersAlike limit)) (stop_of_last_item stop_of_member) is.behind d.members rest) (us vs : List TokenWithBytes)
        → AreTokensAlike limit (is.name ∷ is.equals ∷ f.front) us → (e : Def) × IsDef k (us ++ vs) e vs × AreDefsAlike limit d e
    again f [] vs alike = absurd alike
    again f (u ∷ []) vs alike = absurd alike.1
    again f (u ∷ v ∷ us) vs alike =
        let ms = f.again us vs alike.1.1 in
        let e : Def = record { name = u.text; start = u.start; stop = stop_of_last_member ms.0; members = ms.0 } in (
          e,
          record {
            name = u;
            equals = v;
            behind = us ++ vs;
            split = refl;
            is_name = alike_token_is_alias_name limit is.name u alike.0 is.is_name;
            is_equals = alike_mark_is_mark limit 61 is.equals v alike.1.0 is.is_equals;
            members = ms.1;
            same_name = refl;
            start = refl;
            stop = refl;
          },
          record {
            name = alike.0.text ∙ sym is.same_name;
            members = ms.2;
            stop = λ inside. alike_members_end_alike limit d.members ms.0 ms.2 (subst (λ (n : ℕ). n ≤ limit) is.stop inside) ∙ sym is.stop;
          },
        )

-- What the tokens of members and definitions say stays the same where tokens that are alike stand in their place.
use Rattle.std.proofs.Common.{◌≡◌, ℕ, ◌≤◌, Bool, true, false, not, List, [], ◌∷◌, ◌++◌, refl, sym, ap, subst, ◌∙◌, append_assoc, append-nil}
use Rattle.std.specs.List.{AllByRecursion}
use Rattle.sudoers_grammar.specs.declared.node.Kind.{Kind}
use Rattle.sudoers_grammar.specs.declared.node.Kind.TheVariants.{User, Runas, Host, Cmnd}
use Rattle.sudoers_grammar.specs.declared.node.Atom.{Atom}
use Rattle.sudoers_grammar.specs.Node.{Member}
use Rattle.sudoers_line_rows.specs.Alike.{is_same_bool, is_same_atom, is_same_member}
use Rattle.sudoers_grammar.specs.Piece.{TokenWithBytes, is_mark_of_byte}
use Rattle.sudoers_grammar.specs.Atom.{atom_of_token}
use Rattle.sudoers_grammar.specs.Grammar.{IsMark, Many, MarkThenRule, is_odd_count_of_tokens, start_of_first_token, IsMember}

-- ---- tokens that are alike

-- two tokens of one kind and text; limit: a token that ends no later than there ends at the same place
pub record IsTokenAlike (limit : ℕ) (t u : TokenWithBytes) : Type 0 where
  pub kind : u.kind ≡ t.kind
  pub text : u.text ≡ t.text
  pub stop : t.stop ≤ limit → u.stop ≡ t.stop

-- of two lists, each item is so to that at its place
abbrev pub AreAlike : {X : Type 0} → (X → X → Type 0) → List X → List X → Type 0
AreAlike P [] [] = Unit {0}
AreAlike P [] (y ∷ ys) = ⊥
AreAlike P (x ∷ xs) [] = ⊥
AreAlike P (x ∷ xs) (y ∷ ys) = P x y × AreAlike P xs ys

abbrev pub AreTokensAlike : ℕ → List TokenWithBytes → List TokenWithBytes → Type 0
AreTokensAlike limit = AreAlike (IsTokenAlike limit)

-- the last of the tokens ends there
abbrev pub EndsAt : List TokenWithBytes → ℕ → Type 0
EndsAt [] stop = ⊥
EndsAt (t ∷ []) stop = t.stop ≡ stop
EndsAt (t ∷ u ∷ ts) stop = EndsAt (u ∷ ts) stop

-- tokens like these, which fall into two parts
pub record AreSplitAlike (limit : ℕ) (a b us : List TokenWithBytes) : Type 0 where
  pub first : List TokenWithBytes
  pub second : List TokenWithBytes
  pub split : us ≡ first ++ second
  pub one : AreTokensAlike limit a first
  pub other : AreTokensAlike limit b second

pub alike_tokens_split : (limit : ℕ) (a b us : List TokenWithBytes) → AreTokensAlike limit (a ++ b) us → AreSplitAlike limit a b us
alike_tokens_split limit [] b us alike = record { first = []; second = us; split = refl; one = tt; other = alike }
alike_tokens_split limit (t ∷ a) b [] alike = absurd alike
alike_tokens_split limit (t ∷ a) b (u ∷ us) alike =
    let x = alike_tokens_split limit a b us alike.1 in
    record { first = u ∷ x.first; second = x.second; split = ap (λ (ts : List TokenWithBytes). u ∷ ts) x.split; one = (alike.0, x.one); other = x.other }

pub join_ends_where_second_part_does : (a b : List TokenWithBytes) (stop : ℕ) → EndsAt b stop → EndsAt (a ++ b) stop
join_ends_where_second_part_does [] b stop ends = ends
join_ends_where_second_part_does (t ∷ []) [] stop ends = absurd ends
join_ends_where_second_part_does (t ∷ []) (u ∷ b) stop ends = ends
join_ends_where_second_part_does (t ∷ s ∷ a) b stop ends = join_ends_where_second_part_does (s ∷ a) b stop ends

-- ---- a rule by the tokens that it takes

-- The rule takes tokens, of which the last ends there. It takes tokens like them, whatever follows, and they say what is alike.
pub record TakesFront {X : Type 0} (limit : ℕ) (P : List TokenWithBytes → X → List TokenWithBytes → Type 0) (A : X → X → Type 0) (stop : X → ℕ) (ts : List TokenWithBytes) (x : X) (rest : List TokenWithBytes) : Type 0 where
  pub front : List TokenWithBytes
  pub split : ts ≡ front ++ rest
  pub ends : EndsAt front (stop x)
  pub again : (us vs : List TokenWithBytes) → AreTokensAlike limit front us → (y : X) × P (us ++ vs) y vs × A x y

abbrev pub TakesFronts : {X : Type 0} → ℕ → (List TokenWithBytes → X → List TokenWithBytes → Type 0) → (X → X → Type 0) → (X → ℕ) → Type 0
TakesFronts {X} limit P A stop = (ts : List TokenWithBytes) (x : X) (rest : List TokenWithBytes) → P ts x rest → TakesFront limit P A stop ts x rest

pub alike_mark_is_mark : (limit b : ℕ) (t u : TokenWithBytes) → IsTokenAlike limit t u → IsMark b t → IsMark b u
unfolding is_mark_of_byte
alike_mark_is_mark limit b t u alike mark = rw (alike.kind, alike.text) mark

-- a mark, and then the rule
pub mark_and_rule_take_fronts : {X : Type 0} (limit b : ℕ) (P : List TokenWithBytes → X → List TokenWithBytes → Type 0) (A : X → X → Type 0) (stop : X → ℕ) → TakesFronts limit P A stop
    → TakesFronts limit (MarkThenRule b P) A stop
mark_and_rule_take_fronts {X} limit b P A stop takes ts x rest is =
    let f = takes is.behind x rest is.is in
    record {
      front = is.mark ∷ f.front;
      split = is.split ∙ ap (λ (us : List TokenWithBytes). is.mark ∷ us) f.split;
      ends = join_ends_where_second_part_does (is.mark ∷ []) f.front (stop x) f.ends;
      again = again f;
    }
  where
    again : (f : TakesFront limit P A stop is.behind x rest) (us vs : List TokenWithBytes) → AreTokensAlike limit (is.mark ∷ f.front) us → (y : X) × MarkThenRule b P (us ++ vs) y vs × A x y
    again f [] vs alike = absurd alike
    again f (u ∷ us) vs alike =
        let y = f.again us vs alike.1 in
        (y.0, record { mark = u; behind = us ++ vs; split = refl; is_mark = alike_mark_is_mark limit b is.mark u alike.0 is.is_mark; is = y.1 }, y.2)

-- ---- members

-- Each atom says the same as itself.
abbrev pub AtomsAreAlikeThemselves : Type 0
AtomsAreAlikeThemselves = (a : Atom) → is_same_atom a a ≡ true

-- two members that say the same; one that ends no later than the limit ends at the same place
abbrev pub AreMembersAlike : ℕ → Member → Member → Type 0
AreMembersAlike limit m o = (is_same_member m o ≡ true) × (m.stop ≤ limit → o.stop ≡ m.stop) × (is_same_member o m ≡ true)

abbrev pub stop_of_member : Member → ℕ
stop_of_member m = m.stop

alike_token_has_same_atom : (limit : ℕ) (k : Kind) (t u : TokenWithBytes) → IsTokenAlike limit t u → atom_of_token k u ≡ atom_of_token k t
unfolding atom_of_token
alike_token_has_same_atom limit User t u alike = rw (alike.kind, alike.text) refl
alike_token_has_same_atom limit Runas t u alike = rw (alike.kind, alike.text) refl
alike_token_has_same_atom limit Host t u alike = rw (alike.kind, alike.text) refl
alike_token_has_same_atom limit Cmnd t u alike = rw (alike.kind, alike.text) refl

alike_tokens_are_signs : (limit : ℕ) (ts us : List TokenWithBytes) → AreTokensAlike limit ts us → AllByRecursion (IsMark 33) ts → AllByRecursion (IsMark 33) us
alike_tokens_are_signs limit [] [] alike all = tt
alike_tokens_are_signs limit [] (u ∷ us) alike all = absurd alike
alike_tokens_are_signs limit (t ∷ ts) [] alike all = absurd alike
alike_tokens_are_signs limit (t ∷ ts) (u ∷ us) alike all = (alike_mark_is_mark limit 33 t u alike.0 all.0, alike_tokens_are_signs limit ts us alike.1 all.1)

alike_tokens_have_same_odd_count : (limit : ℕ) (ts us : List TokenWithBytes) → AreTokensAlike limit ts us → is_odd_count_of_tokens us ≡ is_odd_count_of_tokens ts
alike_tokens_have_same_odd_count limit [] [] alike = refl
alike_tokens_have_same_odd_count limit [] (u ∷ us) alike = absurd alike
alike_tokens_have_same_odd_count limit (t ∷ ts) [] alike = absurd alike
alike_tokens_have_same_odd_count limit (t ∷ ts) (u ∷ us) alike = ap not (alike_tokens_have_same_odd_count limit ts us alike.1)

truth_is_same : (b : Bool) → is_same_bool b b ≡ true
truth_is_same true = refl
truth_is_same false = refl

member_like_another_without_digests : (m o : Member) → is_same_atom m.atom m.atom ≡ true → m.digests ≡ [] → o.digests ≡ [] → o.negated ≡ m.negated → o.atom ≡ m.atom → is_same_member m o ≡ true
member_like_another_without_digests m o self none others sign same =
    let signs = truth_is_same m.negated in
    rw (none, others, sign, same, signs, self) refl

pub word_members_take_fronts : AtomsAreAlikeThemselves → (limit : ℕ) (k : Kind) → TakesFronts limit (IsMember k) (AreMembersAlike limit) stop_of_member
word_members_take_fronts self limit k ts m rest is = record {
  front = is.signs ++ is.last ∷ [];
  split = is.split ∙ sym (append_assoc is.signs (is.last ∷ []) rest);
  ends = join_ends_where_second_part_does is.signs (is.last ∷ []) m.stop (sym is.stop);
  again = λ us vs alike. again (alike_tokens_split limit is.signs (is.last ∷ []) us alike) vs;
}
  where
    by_last : {us : List TokenWithBytes} (x : AreSplitAlike limit is.signs (is.last ∷ []) us) (vs second : List TokenWithBytes) → x.second ≡ second → AreTokensAlike limit (is.last ∷ []) second
        → (o : Member) × IsMember k (us ++ vs) o vs × AreMembersAlike limit m o
    by_last x vs [] e alike = absurd alike
    by_last x vs (u ∷ v ∷ us) e alike = absurd alike.1
    by_last {us} x vs (u ∷ []) e alike =
        let o : Member = record { start = start_of_first_token (us ++ vs); stop = u.stop; negated = m.negated; digests = []; atom = m.atom } in (
          o,
          record {
            signs = x.first;
            last = u;
            split =
                ap (λ (ts : List TokenWithBytes). ts ++ vs) (x.split ∙ ap (λ (ts : List TokenWithBytes). x.first ++ ts) e) ∙ append_assoc x.first (u ∷ []) vs;
            are_signs = alike_tokens_are_signs limit is.signs x.first x.one is.are_signs;
            atom = alike_token_has_same_atom limit k is.last u alike.0 ∙ is.atom;
            negated = is.negated ∙ sym (alike_tokens_have_same_odd_count limit is.signs x.first x.one);
            digests = refl;
            start = refl;
            stop = refl;
          },
          (
            member_like_another_without_digests m o (self m.atom) is.digests refl refl refl,
            λ inside. alike.0.stop (subst (λ (n : ℕ). n ≤ limit) is.stop inside) ∙ sym is.stop,
            member_like_another_without_digests o m (self m.atom) refl is.digests refl refl,
          ),
        )

    again : {us : List TokenWithBytes} (x : AreSplitAlike limit is.signs (is.last ∷ []) us) (vs : List TokenWithBytes) → (o : Member) × IsMember k (us ++ vs) o vs × AreMembersAlike limit m o
    again x vs = by_last x vs x.second refl x.other

-- ---- lists

abbrev pub stop_of_last_item : {X : Type 0} → (X → ℕ) → List X → ℕ
stop_of_last_item stop [] = 0
stop_of_last_item stop (x ∷ []) = stop x
stop_of_last_item stop (x ∷ y ∷ xs) = stop_of_last_item stop (y ∷ xs)

-- what a rule that is taken again and again takes
pub record TakesManyFronts {X : Type 0} (limit : ℕ) (P : List TokenWithBytes → X → List TokenWithBytes → Type 0) (A : X → X → Type 0) (stop : X → ℕ) (ts : List TokenWithBytes) (xs : List X) (rest : List TokenWithBytes) : Type 0 where
  pub front : List TokenWithBytes
  pub split : ts ≡ front ++ rest
  pub ends : (x : X) (before : List TokenWithBytes) → EndsAt before (stop x) → EndsAt (before ++ front) (stop_of_last_item stop (x ∷ xs))
  pub again : (us vs : List TokenWithBytes) → AreTokensAlike limit front us → (ys : List X) × Many P (us ++ vs) ys vs × AreAlike A xs ys

pub repeated_rule_takes_fronts : {X : Type 0} (limit : ℕ) (P : List TokenWithBytes → X → List TokenWithBytes → Type 0) (A : X → X → Type 0) (stop : X → ℕ) → TakesFronts limit P A stop
    → (xs : List X) (ts rest : List TokenWithBytes) → Many P ts xs rest → TakesManyFronts limit P A stop ts xs rest
repeated_rule_takes_fronts {X} limit P A stop takes [] ts rest is = record { front = []; split = is; ends = λ x before ends. subst (λ (ts : List TokenWithBytes). EndsAt ts (stop x)) (sym (append-nil before)) ends; again = again }
  where
    again : (us vs : List TokenWithBytes) → AreTokensAlike limit [] us → (ys : List X) × Many P (us ++ vs) ys vs × AreAlike A [] ys
    again [] vs alike = ([], refl, tt)
    again (u ∷ us) vs alike = absurd alike
repeated_rule_takes_fronts {X} limit P A stop takes (x ∷ xs) ts rest is =
    let f = takes ts x is.0 is.1 in
    let g = repeated_rule_takes_fronts limit P A stop takes xs is.0 rest is.2 in
    record {
      front = f.front ++ g.front;
      split = f.split ∙ ap (λ (us : List TokenWithBytes). f.front ++ us) g.split ∙ sym (append_assoc f.front g.front rest);
      ends =
          λ y before ends. subst (λ (us : List TokenWithBytes). EndsAt us (stop_of_last_item stop (x ∷ xs))) (append_assoc before f.front g.front)
          (g.ends x (before ++ f.front) (join_ends_where_second_part_does before f.front (stop x) f.ends));
      again = λ us vs alike. again f g (alike_tokens_split limit f.front g.front us alike) vs;
    }
  where
    again : {behind : List TokenWithBytes} (f : TakesFront limit P A stop ts x behind) (g : TakesManyFronts limit P A stop behind xs rest) {us : List TokenWithBytes} (s : AreSplitAlike limit f.front g.front us)
        (vs : List TokenWithBytes) → (ys : List X) × Many P (us ++ vs) ys vs × AreAlike A (x ∷ xs) ys
    again f g {us} s vs =
        let y = f.again s.first (s.second ++ vs) s.one in
        let ys = g.again s.second vs s.other in
        let split : us ++ vs ≡ s.first ++ (s.second ++ vs) = ap (λ (ts : List TokenWithBytes). ts ++ vs) s.split ∙ append_assoc s.first s.second vs in
        (y.0 ∷ ys.0, subst (λ (ts : List TokenWithBytes). Many P ts (y.0 ∷ ys.0) vs) (sym split) (s.second ++ vs, y.1, ys.1), (y.2, ys.2))

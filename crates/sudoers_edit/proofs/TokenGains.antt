-- Lists of members and definitions with one more that is not the first.
use Rattle.std.proofs.Common.{◌≡◌, ℕ, zero, suc, ◌≤◌, ◌<◌, false, List, [], ◌∷◌, ◌++◌, length, refl, sym, ap, subst, ◌∙◌, arith, append_assoc, append-nil, Some}
use Rattle.sudoers_grammar.specs.declared.node.Kind.{Kind}
use Rattle.sudoers_grammar.specs.declared.node.Kind.TheVariants.{User, Runas, Host, Cmnd}
use Rattle.sudoers_grammar.specs.declared.node.Atom.{Atom}
use Rattle.sudoers_grammar.specs.Node.{Member}
use Rattle.sudoers_grammar.specs.Piece.{TokenWithBytes}
use Rattle.sudoers_grammar.specs.Atom.{atom_of_token}
use Rattle.sudoers_grammar.specs.Grammar.{IsMark, Many, MarkThenRule, Separated, IsMember, IsAliasMemberList}
use Rattle.sudoers_edit.specs.internal.LineCuts.{stop_of_item_at}
use Rattle.sudoers_edit.proofs.TokenFronts.{AreAlike, AreTokensAlike, EndsAt, AreSplitAlike, alike_tokens_split, join_ends_where_second_part_does, TakesFront, TakesFronts, mark_and_rule_take_fronts, TakesManyFronts, repeated_rule_takes_fronts, AtomsAreAlikeThemselves, AreMembersAlike, stop_of_member, word_members_take_fronts}
use Rattle.sudoers_edit.proofs.FrontLists.{IsKindOfWords}
use Rattle.sudoers_edit.proofs.TokenCuts.{CanSwapTokens}

-- The second list has one more at a place, which is new; each other is like that in the first.
abbrev pub HasOneGained : {X : Type 0} → (X → X → Type 0) → (X → Type 0) → ℕ → List X → List X → Type 0
HasOneGained A New zero xs [] = ⊥
HasOneGained A New zero xs (y ∷ ys) = New y × AreAlike A xs ys
HasOneGained A New (suc at) [] ys = ⊥
HasOneGained A New (suc at) (x ∷ xs) [] = ⊥
HasOneGained A New (suc at) (x ∷ xs) (y ∷ ys) = A x y × HasOneGained A New at xs ys

-- These tokens are taken by the rule, whatever follows, and say something new.
abbrev pub AreNewTokens : {X : Type 0} → List TokenWithBytes → (List TokenWithBytes → X → List TokenWithBytes → Type 0) → (X → Type 0) → Type 0
AreNewTokens {X} new P New = (vs : List TokenWithBytes) → (y : X) × P (new ++ vs) y vs × New y

-- a rule that is taken again and again behind an item x, with one more
record CanGainItem {X : Type 0} (limit : ℕ) (new : List TokenWithBytes) (P : List TokenWithBytes → X → List TokenWithBytes → Type 0) (A : X → X → Type 0) (New : X → Type 0) (stop : X → ℕ) (x : X)
    (ts : List TokenWithBytes) (xs : List X) (at : ℕ) (rest : List TokenWithBytes) : Type 0 where
  pub left : List TokenWithBytes
  pub right : List TokenWithBytes
  pub split : ts ≡ left ++ (right ++ rest)
  pub begins : (before : List TokenWithBytes) → EndsAt before (stop x) → EndsAt (before ++ left) (stop_of_item_at stop (x ∷ xs) at)
  pub again : (us ws vs : List TokenWithBytes) → AreTokensAlike limit left us → AreTokensAlike limit right ws → (ys : List X) × Many P (us ++ (new ++ (ws ++ vs))) ys vs × HasOneGained A New at xs ys

repeated_rule_gains_item : {X : Type 0} (limit : ℕ) (new : List TokenWithBytes) (P : List TokenWithBytes → X → List TokenWithBytes → Type 0) (A : X → X → Type 0) (New : X → Type 0) (stop : X → ℕ) → TakesFronts limit P A stop
    → AreNewTokens new P New → (at : ℕ) (x : X) (xs : List X) (ts rest : List TokenWithBytes) → at ≤ length xs → Many P ts xs rest → CanGainItem limit new P A New stop x ts xs at rest
repeated_rule_gains_item {X} limit new P A New stop takes fresh zero x xs ts rest inside is =
    let g = repeated_rule_takes_fronts limit P A stop takes xs ts rest is in
    record {
      left = [];
      right = g.front;
      split = g.split;
      begins = λ before ends. subst (λ (us : List TokenWithBytes). EndsAt us (stop x)) (sym (append-nil before)) ends;
      again = again g;
    }
  where
    again : (g : TakesManyFronts limit P A stop ts xs rest) (us ws vs : List TokenWithBytes) → AreTokensAlike limit [] us → AreTokensAlike limit g.front ws
        → (ys : List X) × Many P (us ++ (new ++ (ws ++ vs))) ys vs × HasOneGained A New zero xs ys
    again g [] ws vs none alike =
        let y = fresh (ws ++ vs) in
        let ys = g.again ws vs alike in
        (y.0 ∷ ys.0, (ws ++ vs, y.1, ys.1), (y.2, ys.2))
    again g (u ∷ us) ws vs none alike = absurd none
repeated_rule_gains_item {X} limit new P A New stop takes fresh (suc at) x [] ts rest inside is = absurd (omega (arith, inside))
repeated_rule_gains_item {X} limit new P A New stop takes fresh (suc at) x (y ∷ xs) ts rest inside is =
    let f = takes ts y is.0 is.1 in
    let c = repeated_rule_gains_item limit new P A New stop takes fresh at y xs is.0 rest (omega (arith, inside)) is.2 in
    record {
      left = f.front ++ c.left;
      right = c.right;
      split = f.split ∙ ap (λ (us : List TokenWithBytes). f.front ++ us) c.split ∙ sym (append_assoc f.front c.left (c.right ++ rest));
      begins =
          λ before ends. subst (λ (us : List TokenWithBytes). EndsAt us (stop_of_item_at stop (y ∷ xs) at)) (append_assoc before f.front c.left)
          (c.begins (before ++ f.front) (join_ends_where_second_part_does before f.front (stop y) f.ends));
      again = λ us ws vs alike more. again f c (alike_tokens_split limit f.front c.left us alike) ws vs more;
    }
  where
    again : {behind : List TokenWithBytes} (f : TakesFront limit P A stop ts y behind) (c : CanGainItem limit new P A New stop y behind xs at rest) {us : List TokenWithBytes} (s : AreSplitAlike limit f.front c.left us)
        (ws vs : List TokenWithBytes) → AreTokensAlike limit c.right ws → (ys : List X) × Many P (us ++ (new ++ (ws ++ vs))) ys vs × HasOneGained A New (suc at) (y ∷ xs) ys
    again f c {us} s ws vs more =
        let z = f.again s.first (s.second ++ (new ++ (ws ++ vs))) s.one in
        let zs = c.again s.second ws vs s.other more in
        let split : us ++ (new ++ (ws ++ vs)) ≡ s.first ++ (s.second ++ (new ++ (ws ++ vs))) =
        ap (λ (os : List TokenWithBytes). os ++ (new ++ (ws ++ vs))) s.split ∙ append_assoc s.first s.second (new ++ (ws ++ vs)) in
        (z.0 ∷ zs.0, subst (λ (os : List TokenWithBytes). Many P os (z.0 ∷ zs.0) vs) (sym split) (s.second ++ (new ++ (ws ++ vs)), z.1, zs.1), (z.2, zs.2))

-- no token goes
abbrev pub AreNone : List TokenWithBytes → Type 0
AreNone gone = gone ≡ []

pub separated_items_gain_item : {X : Type 0} (limit b : ℕ) (new : List TokenWithBytes) (P : List TokenWithBytes → X → List TokenWithBytes → Type 0) (A : X → X → Type 0) (New : X → Type 0) (stop : X → ℕ) → TakesFronts limit P A stop
    → AreNewTokens new (MarkThenRule b P) New → (at : ℕ) (xs : List X) (ts rest : List TokenWithBytes) → at < length xs → Separated b P ts xs rest
    → CanSwapTokens limit new AreNone (Separated b P) (HasOneGained A New (suc at) xs) (stop_of_item_at stop xs at) ts rest
separated_items_gain_item {X} limit b new P A New stop takes fresh at [] ts rest inside is = absurd is
separated_items_gain_item {X} limit b new P A New stop takes fresh at (x ∷ xs) ts rest inside is =
    let f = takes ts x is.0 is.1 in
    let c = repeated_rule_gains_item limit new (MarkThenRule b P) A New stop (mark_and_rule_take_fronts limit b P A stop takes) fresh at x xs is.0 rest (omega (arith, inside)) is.2 in
    record {
      left = f.front ++ c.left;
      gone = [];
      right = c.right;
      split = f.split ∙ ap (λ (us : List TokenWithBytes). f.front ++ us) c.split ∙ sym (append_assoc f.front c.left (c.right ++ rest));
      begins = c.begins f.front f.ends;
      gone_is = refl;
      again = λ us ws vs alike more. again f c (alike_tokens_split limit f.front c.left us alike) ws vs more;
    }
  where
    again : {behind : List TokenWithBytes} (f : TakesFront limit P A stop ts x behind) (c : CanGainItem limit new (MarkThenRule b P) A New stop x behind xs at rest) {us : List TokenWithBytes}
        (s : AreSplitAlike limit f.front c.left us) (ws vs : List TokenWithBytes) → AreTokensAlike limit c.right ws
        → (ys : List X) × Separated b P (us ++ (new ++ (ws ++ vs))) ys vs × HasOneGained A New (suc at) (x ∷ xs) ys
    again f c {us} s ws vs more =
        let z = f.again s.first (s.second ++ (new ++ (ws ++ vs))) s.one in
        let zs = c.again s.second ws vs s.other more in
        let split : us ++ (new ++ (ws ++ vs)) ≡ s.first ++ (s.second ++ (new ++ (ws ++ vs))) =
        ap (λ (os : List TokenWithBytes). os ++ (new ++ (ws ++ vs))) s.split ∙ append_assoc s.first s.second (new ++ (ws ++ vs)) in
        (z.0 ∷ zs.0, subst (λ (os : List TokenWithBytes). Separated b P os (z.0 ∷ zs.0) vs) (sym split) (s.second ++ (new ++ (ws ++ vs)), z.1, zs.1), (z.2, zs.2))

-- ---- one more member of one word

-- a member that ends there
abbrev pub IsMemberEndingAt : ℕ → Member → Type 0
IsMemberEndingAt to m = m.stop ≡ to

-- A `,` and a word that can be a member are a new member.
pub mark_and_word_are_new_member : (k : Kind) (mark word : TokenWithBytes) (a : Atom) (to : ℕ) → IsMark 44 mark → atom_of_token k word ≡ Some a → word.stop ≡ to
    → AreNewTokens (mark ∷ word ∷ []) (MarkThenRule 44 (IsMember k)) (IsMemberEndingAt to)
mark_and_word_are_new_member k mark word a to is atom stop vs =
    let m : Member = record { start = word.start; stop = word.stop; negated = false; digests = []; atom = a } in (
      m,
      record {
        mark = mark;
        behind = word ∷ vs;
        split = refl;
        is_mark = is;
        is = record { signs = []; last = word; split = refl; are_signs = tt; atom = atom; negated = refl; digests = refl; start = refl; stop = refl };
      },
      stop,
    )

pub alias_members_gain_member : AtomsAreAlikeThemselves → (limit : ℕ) (k : Kind) → IsKindOfWords k → (mark word : TokenWithBytes) (a : Atom) (to : ℕ) → IsMark 44 mark → atom_of_token k word ≡ Some a → word.stop ≡ to
    → (at : ℕ) (members : List Member) (ts rest : List TokenWithBytes) → at < length members → IsAliasMemberList k ts members rest
    → CanSwapTokens limit (mark ∷ word ∷ []) AreNone (IsAliasMemberList k) (HasOneGained (AreMembersAlike limit) (IsMemberEndingAt to) (suc at) members) (stop_of_item_at stop_of_member members at) ts rest
alias_members_gain_member self limit User words mark word a to is_mark atom stop at members ts rest inside is =
    separated_items_gain_item limit 44 (mark ∷ word ∷ []) (IsMember User) (AreMembersAlike limit) (IsMemberEndingAt to) stop_of_member (word_members_take_fronts self limit User)
    (mark_and_word_are_new_member User mark word a to is_mark atom stop) at members ts rest inside is
alias_members_gain_member self limit Runas words mark word a to is_mark atom stop at members ts rest inside is =
    separated_items_gain_item limit 44 (mark ∷ word ∷ []) (IsMember Runas) (AreMembersAlike limit) (IsMemberEndingAt to) stop_of_member (word_members_take_fronts self limit Runas)
    (mark_and_word_are_new_member Runas mark word a to is_mark atom stop) at members ts rest inside is
alias_members_gain_member self limit Host words mark word a to is_mark atom stop at members ts rest inside is =
    separated_items_gain_item limit 44 (mark ∷ word ∷ []) (IsMember Host) (AreMembersAlike limit) (IsMemberEndingAt to) stop_of_member (word_members_take_fronts self limit Host)
    (mark_and_word_are_new_member Host mark word a to is_mark atom stop) at members ts rest inside is
alias_members_gain_member self limit Cmnd words mark word a to is_mark atom stop at members ts rest inside is = absurd words

-- Lists of members and definitions without one that is not the first.
use Rattle.std.proofs.Common.{◌≡◌, ℕ, zero, suc, ◌<◌, List, [], ◌∷◌, ◌++◌, length, sym, ap, subst, ◌∙◌, arith, append_assoc, append-nil}
use Rattle.std.specs.Prelude.{remove}
use Rattle.sudoers_grammar.specs.Piece.{TokenWithBytes}
use Rattle.sudoers_grammar.specs.Grammar.{Many, MarkThenRule, Separated}
use Rattle.sudoers_edit.specs.internal.LineCuts.{stop_of_item_at}
use Rattle.sudoers_edit.proofs.TokenFronts.{AreAlike, AreTokensAlike, EndsAt, AreSplitAlike, alike_tokens_split, join_ends_where_second_part_does, TakesFront, TakesFronts, mark_and_rule_take_fronts, TakesManyFronts, repeated_rule_takes_fronts}

-- Of the tokens that a rule takes the first ones end there, and others can go from behind them, of which something holds. The rule takes the
-- rest with new ones in their place, and tokens like them, and they say something good.
pub record CanSwapTokens {Y : Type 0} (limit : ℕ) (new : List TokenWithBytes) (Gone : List TokenWithBytes → Type 0) (P : List TokenWithBytes → Y → List TokenWithBytes → Type 0) (Good : Y → Type 0) (from : ℕ)
    (ts rest : List TokenWithBytes) : Type 0 where
  pub left : List TokenWithBytes
  pub gone : List TokenWithBytes
  pub right : List TokenWithBytes
  pub split : ts ≡ left ++ (gone ++ (right ++ rest))
  pub begins : EndsAt left from
  pub gone_is : Gone gone
  pub again : (us ws vs : List TokenWithBytes) → AreTokensAlike limit left us → AreTokensAlike limit right ws → (y : Y) × P (us ++ (new ++ (ws ++ vs))) y vs × Good y

-- Some tokens can go, of which the last ends there, and none comes.
abbrev pub CanLoseTokens : {Y : Type 0} → ℕ → (List TokenWithBytes → Y → List TokenWithBytes → Type 0) → (Y → Type 0) → ℕ → ℕ → List TokenWithBytes → List TokenWithBytes → Type 0
CanLoseTokens limit P Good from to ts rest = CanSwapTokens limit [] (λ (gone : List TokenWithBytes). EndsAt gone to) P Good from ts rest

-- the same of a rule that is taken again and again behind an item x
record CanLoseItem {X : Type 0} (limit : ℕ) (P : List TokenWithBytes → X → List TokenWithBytes → Type 0) (A : X → X → Type 0) (stop : X → ℕ) (x : X) (ts : List TokenWithBytes) (xs : List X) (at : ℕ)
    (rest : List TokenWithBytes) : Type 0 where
  pub left : List TokenWithBytes
  pub gone : List TokenWithBytes
  pub right : List TokenWithBytes
  pub split : ts ≡ left ++ (gone ++ (right ++ rest))
  pub begins : (before : List TokenWithBytes) → EndsAt before (stop x) → EndsAt (before ++ left) (stop_of_item_at stop (x ∷ xs) at)
  pub ends : EndsAt gone (stop_of_item_at stop xs at)
  pub again : (us ws vs : List TokenWithBytes) → AreTokensAlike limit left us → AreTokensAlike limit right ws → (ys : List X) × Many P (us ++ (ws ++ vs)) ys vs × AreAlike A (remove xs at) ys

repeated_rule_loses_item : {X : Type 0} (limit : ℕ) (P : List TokenWithBytes → X → List TokenWithBytes → Type 0) (A : X → X → Type 0) (stop : X → ℕ) → TakesFronts limit P A stop
    → (at : ℕ) (x : X) (xs : List X) (ts rest : List TokenWithBytes) → at < length xs → Many P ts xs rest → CanLoseItem limit P A stop x ts xs at rest
repeated_rule_loses_item {X} limit P A stop takes at x [] ts rest inside is = absurd (omega (arith, inside))
repeated_rule_loses_item {X} limit P A stop takes zero x (y ∷ xs) ts rest inside is =
    let f = takes ts y is.0 is.1 in
    let g = repeated_rule_takes_fronts limit P A stop takes xs is.0 rest is.2 in
    record {
      left = [];
      gone = f.front;
      right = g.front;
      split = f.split ∙ ap (λ (us : List TokenWithBytes). f.front ++ us) g.split;
      begins = λ before ends. subst (λ (us : List TokenWithBytes). EndsAt us (stop x)) (sym (append-nil before)) ends;
      ends = f.ends;
      again = again g;
    }
  where
    again : {behind : List TokenWithBytes} (g : TakesManyFronts limit P A stop behind xs rest) (us ws vs : List TokenWithBytes) → AreTokensAlike limit [] us → AreTokensAlike limit g.front ws
        → (ys : List X) × Many P (us ++ (ws ++ vs)) ys vs × AreAlike A xs ys
    again g [] ws vs none alike = g.again ws vs alike
    again g (u ∷ us) ws vs none alike = absurd none
repeated_rule_loses_item {X} limit P A stop takes (suc at) x (y ∷ xs) ts rest inside is =
    let f = takes ts y is.0 is.1 in
    let c = repeated_rule_loses_item limit P A stop takes at y xs is.0 rest (omega (arith, inside)) is.2 in
    record {
      left = f.front ++ c.left;
      gone = c.gone;
      right = c.right;
      split = f.split ∙ ap (λ (us : List TokenWithBytes). f.front ++ us) c.split ∙ sym (append_assoc f.front c.left (c.gone ++ (c.right ++ rest)));
      begins =
          λ before ends. subst (λ (us : List TokenWithBytes). EndsAt us (stop_of_item_at stop (y ∷ xs) at)) (append_assoc before f.front c.left)
          (c.begins (before ++ f.front) (join_ends_where_second_part_does before f.front (stop y) f.ends));
      ends = c.ends;
      again = λ us ws vs alike more. again f c (alike_tokens_split limit f.front c.left us alike) ws vs more;
    }
  where
    again : {behind : List TokenWithBytes} (f : TakesFront limit P A stop ts y behind) (c : CanLoseItem limit P A stop y behind xs at rest) {us : List TokenWithBytes} (s : AreSplitAlike limit f.front c.left us)
        (ws vs : List TokenWithBytes) → AreTokensAlike limit c.right ws → (ys : List X) × Many P (us ++ (ws ++ vs)) ys vs × AreAlike A (y ∷ remove xs at) ys
    again f c {us} s ws vs more =
        let z = f.again s.first (s.second ++ (ws ++ vs)) s.one in
        let zs = c.again s.second ws vs s.other more in
        let split : us ++ (ws ++ vs) ≡ s.first ++ (s.second ++ (ws ++ vs)) = ap (λ (os : List TokenWithBytes). os ++ (ws ++ vs)) s.split ∙ append_assoc s.first s.second (ws ++ vs) in
        (z.0 ∷ zs.0, subst (λ (os : List TokenWithBytes). Many P os (z.0 ∷ zs.0) vs) (sym split) (s.second ++ (ws ++ vs), z.1, zs.1), (z.2, zs.2))

pub separated_items_lose_item : {X : Type 0} (limit b : ℕ) (P : List TokenWithBytes → X → List TokenWithBytes → Type 0) (A : X → X → Type 0) (stop : X → ℕ) → TakesFronts limit P A stop
    → (at : ℕ) (xs : List X) (ts rest : List TokenWithBytes) → suc at < length xs → Separated b P ts xs rest
    → CanLoseTokens limit (Separated b P) (AreAlike A (remove xs (suc at))) (stop_of_item_at stop xs at) (stop_of_item_at stop xs (suc at)) ts rest
separated_items_lose_item {X} limit b P A stop takes at [] ts rest inside is = absurd is
separated_items_lose_item {X} limit b P A stop takes at (x ∷ xs) ts rest inside is =
    let f = takes ts x is.0 is.1 in
    let c = repeated_rule_loses_item limit (MarkThenRule b P) A stop (mark_and_rule_take_fronts limit b P A stop takes) at x xs is.0 rest (omega (arith, inside)) is.2 in
    record {
      left = f.front ++ c.left;
      gone = c.gone;
      right = c.right;
      split = f.split ∙ ap (λ (us : List TokenWithBytes). f.front ++ us) c.split ∙ sym (append_assoc f.front c.left (c.gone ++ (c.right ++ rest)));
      begins = c.begins f.front f.ends;
      gone_is = c.ends;
      again = λ us ws vs alike more. again f c (alike_tokens_split limit f.front c.left us alike) ws vs more;
    }
  where
    again : {behind : List TokenWithBytes} (f : TakesFront limit P A stop ts x behind) (c : CanLoseItem limit (MarkThenRule b P) A stop x behind xs at rest) {us : List TokenWithBytes}
        (s : AreSplitAlike limit f.front c.left us) (ws vs : List TokenWithBytes) → AreTokensAlike limit c.right ws
        → (ys : List X) × Separated b P (us ++ (ws ++ vs)) ys vs × AreAlike A (x ∷ remove xs at) ys
    again f c {us} s ws vs more =
        let z = f.again s.first (s.second ++ (ws ++ vs)) s.one in
        let zs = c.again s.second ws vs s.other more in
        let split : us ++ (ws ++ vs) ≡ s.first ++ (s.second ++ (ws ++ vs)) = ap (λ (os : List TokenWithBytes). os ++ (ws ++ vs)) s.split ∙ append_assoc s.first s.second (ws ++ vs) in
        (z.0 ∷ zs.0, subst (λ (os : List TokenWithBytes). Separated b P os (z.0 ∷ zs.0) vs) (sym split) (s.second ++ (ws ++ vs), z.1, zs.1), (z.2, zs.2))

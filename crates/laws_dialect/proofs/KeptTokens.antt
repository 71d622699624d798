-- Which tokens keep their spelling in sudo's dialect, by what stands before them and behind them.
use Rattle.std.proofs.Common.{◌≡◌, ◌⊎◌, ℕ, Bool, true, false, List, [], ◌∷◌, Option, Some, None, inl, inr, refl, sym, ap, subst, ◌∙◌}
use Rattle.std.specs.Prelude.{◌&&◌, ◌||◌, codes, if◌then◌else◌}
use Rattle.std.specs.Str.{bytes_eq}
use Rattle.std.proofs.lemmas.Bool.{and_parts}
use Rattle.std.proofs.lemmas.Slice.Eq.{bytes_eq-Decides}
use Rattle.sudoers_text.specs.declared.token.TokenKind.{TokenKind}
use Rattle.sudoers_text.specs.declared.token.TokenKind.TheVariants as kind
use Rattle.sudoers_text.specs.declared.adapting.TokenBefore.{TokenBefore}
use Rattle.sudoers_text.specs.declared.adapting.TokenBefore.TheVariants as before
use Rattle.sudoers_text.specs.Adapted.{token_before}
use Rattle.sudoers_grammar.specs.Piece.{TokenWithBytes, is_punct, is_word, is_quoted, is_mark_of_byte, is_some, meaning_of_token_word}
use Rattle.sudoers_grammar.specs.Grammar.{IsMark}

-- a kind that an `=` can have
abbrev pub may_be_equals : TokenKind → Bool
may_be_equals kind.Punct = true
may_be_equals kind.Bad = true
may_be_equals k = false

-- The token is an `=`, as a mark or as what is Bad.
abbrev pub is_equals : TokenWithBytes → Bool
is_equals t = may_be_equals t.kind && bytes_eq t.text (codes "=")

abbrev pub begins_with_closing_parenthesis : List TokenWithBytes → Bool
begins_with_closing_parenthesis [] = false
begins_with_closing_parenthesis (t ∷ ts) = is_mark_of_byte 41 t

-- The token keeps its spelling: behind a path or an argument it is no `=`, and behind `(` it is no `:` before `)`. strict: behind
-- `sudoedit` it is no `=` either, whatever may stand there.
abbrev pub IsKeptBehind : Bool → TokenBefore → TokenWithBytes → List TokenWithBytes → Type 0
IsKeptBehind strict before.Path t ts = is_equals t ≡ false
IsKeptBehind true before.Sudoedit t ts = is_equals t ≡ false
IsKeptBehind false before.Sudoedit t ts = Unit {0}
IsKeptBehind strict (before.Argument joined) t ts = is_equals t ≡ false
IsKeptBehind strict before.OpeningParenthesis t ts = (is_mark_of_byte 58 t && begins_with_closing_parenthesis ts) ≡ false
IsKeptBehind strict before.Other t ts = Unit {0}

-- Each of these tokens keeps its spelling, the first behind this one.
abbrev pub AreKeptBehind : Bool → TokenBefore → List TokenWithBytes → Type 0
AreKeptBehind strict left [] = Unit {0}
AreKeptBehind strict left (t ∷ ts) = IsKeptBehind strict left t ts × AreKeptBehind strict (token_before t.kind t.text) ts

-- The tokens keep their spelling: behind any token, or else behind one that is no path, no argument, no `(` and not `sudoedit`.
abbrev pub AreKept : Bool → Bool → List TokenWithBytes → Type 0
AreKept strict true ts = (left : TokenBefore) → AreKeptBehind strict left ts
AreKept strict false ts = AreKeptBehind strict before.Other ts

-- The tokens keep their spelling behind any token, and they begin with no `)`.
pub record AreKeptWithoutClosing (strict : Bool) (ts : List TokenWithBytes) : Type 0 where
  pub kept : AreKept strict true ts
  pub no_closing : begins_with_closing_parenthesis ts ≡ false

pub tokens_kept_anywhere_are_kept : (strict : Bool) (anywhere : Bool) (ts : List TokenWithBytes) → AreKept strict true ts → AreKept strict anywhere ts
tokens_kept_anywhere_are_kept strict true ts all = all
tokens_kept_anywhere_are_kept strict false ts all = all before.Other

-- ---- one token before others

token_is_kept_behind_any : (strict : Bool) (t : TokenWithBytes) (ts : List TokenWithBytes) → is_equals t ≡ false → (is_mark_of_byte 58 t && begins_with_closing_parenthesis ts) ≡ false
    → (left : TokenBefore) → IsKeptBehind strict left t ts
token_is_kept_behind_any strict t ts no_equals no_colon before.Path = no_equals
token_is_kept_behind_any true t ts no_equals no_colon before.Sudoedit = no_equals
token_is_kept_behind_any false t ts no_equals no_colon before.Sudoedit = tt
token_is_kept_behind_any strict t ts no_equals no_colon (before.Argument joined) = no_equals
token_is_kept_behind_any strict t ts no_equals no_colon before.OpeningParenthesis = no_colon
token_is_kept_behind_any strict t ts no_equals no_colon before.Other = tt

kind_of_no_equals_is_no_punct : (k : TokenKind) → may_be_equals k ≡ false → is_punct k ≡ false
kind_of_no_equals_is_no_punct kind.Punct e = e
kind_of_no_equals_is_no_punct k e = refl

token_of_no_equals_kind_is_no_mark : (b : ℕ) (t : TokenWithBytes) → may_be_equals t.kind ≡ false → is_mark_of_byte b t ≡ false
unfolding is_mark_of_byte
token_of_no_equals_kind_is_no_mark b t e = ap (λ (punct : Bool). punct && bytes_eq t.text (b ∷ [])) (kind_of_no_equals_is_no_punct t.kind e)

-- a token of a kind that no `=` has
pub token_of_no_equals_kind_before_kept_tokens : (strict : Bool) (t : TokenWithBytes) (ts : List TokenWithBytes) → may_be_equals t.kind ≡ false → AreKeptBehind strict (token_before t.kind t.text) ts
    → AreKeptWithoutClosing strict (t ∷ ts)
token_of_no_equals_kind_before_kept_tokens strict t ts e rest =
    let no_equals : is_equals t ≡ false = ap (λ (may : Bool). may && bytes_eq t.text (codes "=")) e in
    let no_colon = ap (λ (colon : Bool). colon && begins_with_closing_parenthesis ts) (token_of_no_equals_kind_is_no_mark 58 t e) in
    record {
      kept = λ left. (token_is_kept_behind_any strict t ts no_equals no_colon left, rest);
      no_closing = token_of_no_equals_kind_is_no_mark 41 t e;
    }

-- a kind that no `=` has, and neither a path nor an argument
pub record IsWordLikeKind (k : TokenKind) : Type 0 where
  pub no_equals : may_be_equals k ≡ false
  pub before : (text : List ℕ) → (token_before k text ≡ before.Other) ⊎ (token_before k text ≡ before.Sudoedit)

-- The token is of a kind that no `=` has, and neither a path, an argument nor `sudoedit`.
pub record IsPlainToken (t : TokenWithBytes) : Type 0 where
  pub no_equals : may_be_equals t.kind ≡ false
  pub before : token_before t.kind t.text ≡ before.Other

pub plain_token_before_kept_tokens : (strict : Bool) (t : TokenWithBytes) (ts : List TokenWithBytes) → IsPlainToken t → AreKept strict false ts → AreKeptWithoutClosing strict (t ∷ ts)
plain_token_before_kept_tokens strict t ts is rest =
    token_of_no_equals_kind_before_kept_tokens strict t ts is.no_equals (subst (λ (left : TokenBefore). AreKeptBehind strict left ts) (sym is.before) rest)

tokens_kept_behind_other_are_kept_behind_sudoedit : (ts : List TokenWithBytes) → AreKeptBehind false before.Other ts → AreKeptBehind false before.Sudoedit ts
tokens_kept_behind_other_are_kept_behind_sudoedit [] rest = tt
tokens_kept_behind_other_are_kept_behind_sudoedit (t ∷ ts) rest = (tt, rest.1)

-- A word, a quoted word or the like: what stands behind it is asked more where `sudoedit` counts anywhere.
pub word_like_token_before_kept_tokens : (strict : Bool) (t : TokenWithBytes) (ts : List TokenWithBytes) → IsWordLikeKind t.kind → AreKept strict strict ts → AreKeptWithoutClosing strict (t ∷ ts)
word_like_token_before_kept_tokens true t ts is rest = token_of_no_equals_kind_before_kept_tokens true t ts is.no_equals (rest (token_before t.kind t.text))
word_like_token_before_kept_tokens false t ts is rest =
    token_of_no_equals_kind_before_kept_tokens false t ts is.no_equals
    (elim (is.before t.text) [
      | inl other ↦ subst (λ (left : TokenBefore). AreKeptBehind false left ts) (sym other) rest
      | inr edit ↦ subst (λ (left : TokenBefore). AreKeptBehind false left ts) (sym edit) (tokens_kept_behind_other_are_kept_behind_sudoedit ts rest)
    ])

-- any token, behind one that is no path, no argument and no `(`
pub any_token_before_kept_tokens : (strict : Bool) (t : TokenWithBytes) (ts : List TokenWithBytes) → AreKept strict true ts → AreKept strict false (t ∷ ts)
any_token_before_kept_tokens strict t ts rest = (tt, rest (token_before t.kind t.text))

-- ---- marks

-- none of `=`, `(` and `)`
pub record IsSeparatorByte (b : ℕ) : Type 0 where
  pub no_equals : bytes_eq (b ∷ []) (codes "=") ≡ false
  pub no_opening : bytes_eq (b ∷ []) (codes "(") ≡ false
  pub no_closing : bytes_eq (b ∷ []) (codes ")") ≡ false

pub exclamation_mark_is_separator : IsSeparatorByte 33
exclamation_mark_is_separator = record { no_equals = refl; no_opening = refl; no_closing = refl }

pub comma_is_separator : IsSeparatorByte 44
comma_is_separator = record { no_equals = refl; no_opening = refl; no_closing = refl }

pub colon_is_separator : IsSeparatorByte 58
colon_is_separator = record { no_equals = refl; no_opening = refl; no_closing = refl }

punct_kind_is_punct : (k : TokenKind) → is_punct k ≡ true → k ≡ kind.Punct
punct_kind_is_punct kind.Punct e = refl
punct_kind_is_punct k e = absurd (cc)

pub mark_has_punct_kind_and_byte : (b : ℕ) (t : TokenWithBytes) → IsMark b t → (t.kind ≡ kind.Punct) × (t.text ≡ b ∷ [])
unfolding is_mark_of_byte
mark_has_punct_kind_and_byte b t is =
    let parts = and_parts (is_punct t.kind) (bytes_eq t.text (b ∷ [])) is in
    (punct_kind_is_punct t.kind parts.0, (bytes_eq-Decides t.text (b ∷ [])).0 parts.1)

mark_is_token_before : (b : ℕ) (t : TokenWithBytes) → IsMark b t → token_before t.kind t.text ≡ token_before kind.Punct (b ∷ [])
mark_is_token_before b t is =
    let parts = mark_has_punct_kind_and_byte b t is in
    ap (λ (k : TokenKind). token_before k t.text) parts.0 ∙ ap (λ (text : List ℕ). token_before kind.Punct text) parts.1

mark_is_equals_by_byte : (b : ℕ) (t : TokenWithBytes) → IsMark b t → is_equals t ≡ bytes_eq (b ∷ []) (codes "=")
mark_is_equals_by_byte b t is =
    let parts = mark_has_punct_kind_and_byte b t is in
    ap (λ (k : TokenKind). may_be_equals k && bytes_eq t.text (codes "=")) parts.0 ∙ ap (λ (text : List ℕ). bytes_eq text (codes "=")) parts.1

mark_is_other_mark_by_byte : (a b : ℕ) (t : TokenWithBytes) → IsMark b t → is_mark_of_byte a t ≡ bytes_eq (b ∷ []) (a ∷ [])
unfolding is_mark_of_byte
mark_is_other_mark_by_byte a b t is =
    let parts = mark_has_punct_kind_and_byte b t is in
    ap (λ (k : TokenKind). is_punct k && bytes_eq t.text (a ∷ [])) parts.0 ∙ ap (λ (text : List ℕ). bytes_eq text (a ∷ [])) parts.1

conjunction_with_false_is_false : (a b : Bool) → b ≡ false → (a && b) ≡ false
conjunction_with_false_is_false true b e = e
conjunction_with_false_is_false false b e = refl

-- `!`, `,` or `:` before tokens that begin with no `)`
pub separator_before_kept_tokens : (strict : Bool) (b : ℕ) (t : TokenWithBytes) (ts : List TokenWithBytes) → IsSeparatorByte b → IsMark b t → AreKeptWithoutClosing strict ts → AreKeptWithoutClosing strict (t ∷ ts)
separator_before_kept_tokens strict b t ts separator is rest =
    let no_equals = mark_is_equals_by_byte b t is ∙ separator.no_equals in
    let no_colon = conjunction_with_false_is_false (is_mark_of_byte 58 t) (begins_with_closing_parenthesis ts) rest.no_closing in
    record {
      kept = λ left. (token_is_kept_behind_any strict t ts no_equals no_colon left, rest.kept (token_before t.kind t.text));
      no_closing = mark_is_other_mark_by_byte 41 b t is ∙ separator.no_closing;
    }

pub opening_parenthesis_before_kept_tokens : (strict : Bool) (t : TokenWithBytes) (ts : List TokenWithBytes) → IsMark 40 t → AreKept strict true ts → AreKeptWithoutClosing strict (t ∷ ts)
opening_parenthesis_before_kept_tokens strict t ts is rest =
    let no_colon = ap (λ (colon : Bool). colon && begins_with_closing_parenthesis ts) (mark_is_other_mark_by_byte 58 40 t is) in
    record {
      kept = λ left. (token_is_kept_behind_any strict t ts (mark_is_equals_by_byte 40 t is) no_colon left, rest (token_before t.kind t.text));
      no_closing = mark_is_other_mark_by_byte 41 40 t is;
    }

pub closing_parenthesis_before_kept_tokens : (strict : Bool) (t : TokenWithBytes) (ts : List TokenWithBytes) → IsMark 41 t → AreKept strict true ts → AreKept strict true (t ∷ ts)
closing_parenthesis_before_kept_tokens strict t ts is rest =
    let no_colon = ap (λ (colon : Bool). colon && begins_with_closing_parenthesis ts) (mark_is_other_mark_by_byte 58 41 t is) in
    λ left. (token_is_kept_behind_any strict t ts (mark_is_equals_by_byte 41 t is) no_colon left, rest (token_before t.kind t.text))

-- ---- words and quoted words

choice_is_either : (b : Bool) (first second : TokenBefore) → ((if b then first else second) ≡ second) ⊎ ((if b then first else second) ≡ first)
choice_is_either true first second = inr refl
choice_is_either false first second = inl refl

pub word_kind_is_word_like : (k : TokenKind) → is_word k ≡ true → IsWordLikeKind k
word_kind_is_word_like kind.Word e = record { no_equals = refl; before = λ text. choice_is_either (bytes_eq text (codes "sudoedit")) before.Sudoedit before.Other }
word_kind_is_word_like k e = absurd (cc)

quoted_kind_is_word_like : (k : TokenKind) → is_quoted k ≡ true → IsWordLikeKind k
quoted_kind_is_word_like kind.Quoted e = record { no_equals = refl; before = λ text. inl refl }
quoted_kind_is_word_like k e = absurd (cc)

true_disjunction_has_true_part : (a b : Bool) → (a || b) ≡ true → (a ≡ true) ⊎ (b ≡ true)
true_disjunction_has_true_part true b e = inl refl
true_disjunction_has_true_part false b e = inr e

pub word_or_quoted_kind_is_word_like : (k : TokenKind) → (is_word k || is_quoted k) ≡ true → IsWordLikeKind k
word_or_quoted_kind_is_word_like k e =
    elim (true_disjunction_has_true_part (is_word k) (is_quoted k) e) [
      | inl w ↦ word_kind_is_word_like k w
      | inr q ↦ quoted_kind_is_word_like k q
    ]

pub test_of_some_choice_is_true : {X : Type 0} → (b : Bool) (found : Option X) (x : X) → (if b then found else None) ≡ Some x → b ≡ true
test_of_some_choice_is_true true found x e = refl
test_of_some_choice_is_true false found x e = absurd (cc)

-- ---- words that are not `sudoedit`

word_kind_is_word : (k : TokenKind) → is_word k ≡ true → k ≡ kind.Word
word_kind_is_word kind.Word e = refl
word_kind_is_word k e = absurd (cc)

word_other_than_sudoedit_is_plain : (t : TokenWithBytes) → is_word t.kind ≡ true → bytes_eq t.text (codes "sudoedit") ≡ false → IsPlainToken t
word_other_than_sudoedit_is_plain t is other =
    let word = word_kind_is_word t.kind is in
    record {
      no_equals = ap may_be_equals word;
      before = ap (λ (k : TokenKind). token_before k t.text) word ∙ ap (λ (b : Bool). if b then before.Sudoedit else before.Other) other;
    }

-- A word that passes a test is not `sudoedit`, which fails it.
word_of_test_is_not_sudoedit : (test : List ℕ → Bool) → test (codes "sudoedit") ≡ false → (text : List ℕ) → test text ≡ true → bytes_eq text (codes "sudoedit") ≡ false
word_of_test_is_not_sudoedit test fails text passes = by (bytes_eq text (codes "sudoedit")) refl
  where
    by : (b : Bool) → bytes_eq text (codes "sudoedit") ≡ b → b ≡ false
    by false e = refl
    by true e = absurd (let one = subst (λ (s : List ℕ). test s ≡ true) ((bytes_eq-Decides text (codes "sudoedit")).0 e) passes in cc)

pub word_of_test_is_plain : (test : List ℕ → Bool) → test (codes "sudoedit") ≡ false → (t : TokenWithBytes) → is_word t.kind ≡ true → test t.text ≡ true → IsPlainToken t
word_of_test_is_plain test fails t is passes = word_other_than_sudoedit_is_plain t is (word_of_test_is_not_sudoedit test fails t.text passes)

word_with_meaning_is_not_sudoedit : {X : Type 0} → (says : List ℕ → Option X) → says (codes "sudoedit") ≡ None → (text : List ℕ) (x : X) → says text ≡ Some x → bytes_eq text (codes "sudoedit") ≡ false
word_with_meaning_is_not_sudoedit says none text x e = word_of_test_is_not_sudoedit (λ (s : List ℕ). is_some (says s)) (ap is_some none) text (ap is_some e)

pub token_with_word_meaning_is_plain : {X : Type 0} → (says : List ℕ → Option X) → says (codes "sudoedit") ≡ None → (t : TokenWithBytes) (x : X) → meaning_of_token_word says t ≡ Some x → IsPlainToken t
token_with_word_meaning_is_plain says none t x e =
    let is = test_of_some_choice_is_true (is_word t.kind) (says t.text) x e in
    let found : says t.text ≡ Some x = sym (ap (λ (b : Bool). if b then says t.text else None) is) ∙ e in
    word_other_than_sudoedit_is_plain t is (word_with_meaning_is_not_sudoedit says none t.text x found)

pub token_with_word_meaning_is_word_like : {X : Type 0} → (says : List ℕ → Option X) (t : TokenWithBytes) (x : X) → meaning_of_token_word says t ≡ Some x → IsWordLikeKind t.kind
token_with_word_meaning_is_word_like says t x e = word_kind_is_word_like t.kind (test_of_some_choice_is_true (is_word t.kind) (says t.text) x e)

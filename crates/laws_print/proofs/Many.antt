-- Things each behind a mark: how they are printed, and how they are read.
use Rattle.laws_print.proofs.Common.{◌≡◌, ℕ, Bool, List, [], ◌∷◌, ◌++◌, refl, sym, ap, ◌∙◌, AllByRecursion, append_assoc, TokenWithBytes, Many, MarkThenRule}
use Rattle.laws_print.proofs.Common.{Separated, IsNonEmptyListOf, AreItemsPairwiseRelated, WrittenToken, gap_bytes_if_spaced, line_of_written_tokens, AreTokensShownBy}
use Rattle.std.specs.List.{flat_map}
use Rattle.laws_print.proofs.ListTokens.{token_of_mark, tokens_of_items_each_behind_mark, tokens_of_items_between_marks}
use Rattle.laws_print.proofs.Shown.{punctuation_of_byte_is_its_mark}

-- ---- as they are printed

-- the mark and a blank
abbrev pub mark_and_blank_between : ℕ → Bool → List ℕ
mark_and_blank_between b spaced = gap_bytes_if_spaced spaced ++ b ∷ 32 ∷ []

module _ {X : Type 0} (b : ℕ) (spaced : Bool) (print : X → List ℕ) (each : X → List WrittenToken → List WrittenToken) (W : X → Type 0)
    (is : (x : X) (tail : List WrittenToken) → W x → line_of_written_tokens (each x tail) ≡ 32 ∷ (print x ++ line_of_written_tokens tail)) where
  more_text : (xs : List X) (tail : List WrittenToken) → AllByRecursion W xs → line_of_written_tokens (tokens_of_items_each_behind_mark (token_of_mark b spaced) each xs tail) ≡ flat_map (λ x. mark_and_blank_between b spaced ++ print x) xs ++ line_of_written_tokens tail
  more_text [] tail all = refl
  more_text (x ∷ xs) tail all =
      ap (λ t. gap_bytes_if_spaced spaced ++ (b ∷ t)) (is x (tokens_of_items_each_behind_mark (token_of_mark b spaced) each xs tail) all.0 ∙ ap (λ t. 32 ∷ (print x ++ t)) (more_text xs tail all.1))
      ∙ joined (gap_bytes_if_spaced spaced) (print x) (flat_map (λ y. mark_and_blank_between b spaced ++ print y) xs) (line_of_written_tokens tail)
    where
      joined : (a p r t : List ℕ) → a ++ (b ∷ 32 ∷ (p ++ (r ++ t))) ≡ (((a ++ b ∷ 32 ∷ []) ++ p) ++ r) ++ t
      joined a p r t = simp append_assoc

  -- what stands before them, the first of them, and the others
  pub many_text : (before first : List ℕ) (line : List WrittenToken → List ℕ) → ((tail : List WrittenToken) → line tail ≡ before ++ (first ++ line_of_written_tokens tail)) → (xs : List X) (tail : List WrittenToken) → AllByRecursion W xs
      → line (tokens_of_items_each_behind_mark (token_of_mark b spaced) each xs tail) ≡ before ++ ((first ++ flat_map (λ x. mark_and_blank_between b spaced ++ print x) xs) ++ line_of_written_tokens tail)
  many_text before first line one xs tail all =
      one (tokens_of_items_each_behind_mark (token_of_mark b spaced) each xs tail) ∙ ap (λ t. before ++ (first ++ t)) (more_text xs tail all)
      ∙ ap (λ t. before ++ t) (sym (append_assoc first (flat_map (λ x. mark_and_blank_between b spaced ++ print x) xs) (line_of_written_tokens tail)))

-- ---- as they are read

-- what is read of some tokens, and the tokens behind it
pub record ReadsAsSameThing {X Y : Type 0} (R : List TokenWithBytes → Y → List TokenWithBytes → Type 0) (same : X → Y → Type 0) (ts : List TokenWithBytes) (x : X) (tail : List WrittenToken) : Type 0 where
  pub thing : Y
  pub rest : List TokenWithBytes
  pub is : R ts thing rest
  pub alike : same x thing
  pub behind : AreTokensShownBy tail rest

-- Such things are read by their tokens.
abbrev pub AreThingsReadByTokens : {X : Type 0} → (List TokenWithBytes → X → List TokenWithBytes → Type 0) → (X → X → Type 0) → (X → Type 0) → (X → List WrittenToken → List WrittenToken) → Type 0
AreThingsReadByTokens {X} R same W tokens = (x : X) (tail : List WrittenToken) (ts : List TokenWithBytes) → W x → AreTokensShownBy (tokens x tail) ts → ReadsAsSameThing R same ts x tail

module _ {X : Type 0} (b : ℕ) (spaced : Bool) (R : List TokenWithBytes → X → List TokenWithBytes → Type 0) (same : X → X → Type 0) (W : X → Type 0) (each : X → List WrittenToken → List WrittenToken)
    (read : AreThingsReadByTokens R same W each) where
  more_read : (xs : List X) (tail : List WrittenToken) (ts : List TokenWithBytes) → AllByRecursion W xs → AreTokensShownBy (tokens_of_items_each_behind_mark (token_of_mark b spaced) each xs tail) ts → ReadsAsSameThing (Many (MarkThenRule b R)) (AreItemsPairwiseRelated same) ts xs tail
  more_read [] tail ts all shows = record { thing = []; rest = ts; is = refl; alike = tt; behind = shows }
  more_read (x ∷ xs) tail [] all shows = absurd shows
  more_read (x ∷ xs) tail (t ∷ ts) all shows =
      let one = read x (tokens_of_items_each_behind_mark (token_of_mark b spaced) each xs tail) ts all.0 shows.2 in
      let more = more_read xs tail one.rest all.1 one.behind in
      record {
        thing = one.thing ∷ more.thing;
        rest = more.rest;
        is = (one.rest, record { mark = t; behind = ts; split = refl; is_mark = punctuation_of_byte_is_its_mark b t shows.0 shows.1; is = one.is }, more.is);
        alike = (one.alike, more.alike);
        behind = more.behind;
      }

  pub many_read : (first : X → List WrittenToken → List WrittenToken) → AreThingsReadByTokens R same W first → (xs : List X) (tail : List WrittenToken) (ts : List TokenWithBytes) → IsNonEmptyListOf W xs → AreTokensShownBy (tokens_of_items_between_marks (token_of_mark b spaced) first each xs tail) ts
      → ReadsAsSameThing (Separated b R) (AreItemsPairwiseRelated same) ts xs tail
  many_read first reads [] tail ts all shows = absurd all
  many_read first reads (x ∷ xs) tail ts all shows =
      let one = reads x (tokens_of_items_each_behind_mark (token_of_mark b spaced) each xs tail) ts all.0 shows in
      let more = more_read xs tail one.rest all.1 one.behind in
      record { thing = one.thing ∷ more.thing; rest = more.rest; is = (one.rest, one.is, more.is); alike = (one.alike, more.alike); behind = more.behind }

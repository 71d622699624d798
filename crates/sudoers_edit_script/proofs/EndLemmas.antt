-- Texts that end in LF.
use Rattle.std.proofs.Common.{◌≡◌, ℕ, true, List, [], ◌∷◌, ◌++◌, refl, ap}
use Rattle.std.proofs.lemmas.Bool.{false≢true, eqb-true}
use Rattle.sudoers_text.specs.Ended.{ends_in_lf}

-- LF at the end ends a text
pub text_with_lf_added_ends_in_lf : (body : List ℕ) → ends_in_lf (body ++ 10 ∷ []) ≡ true
text_with_lf_added_ends_in_lf [] = refl
text_with_lf_added_ends_in_lf (b ∷ []) = refl
text_with_lf_added_ends_in_lf (b ∷ c ∷ bs) = text_with_lf_added_ends_in_lf (c ∷ bs)

-- a text that ends in LF is something and LF
pub ended_text_is_body_and_lf : (l : List ℕ) → ends_in_lf l ≡ true → (body : List ℕ) × (l ≡ body ++ 10 ∷ [])
ended_text_is_body_and_lf [] h = absurd (false≢true h)
ended_text_is_body_and_lf (b ∷ []) h = ([], ap (λ (z : ℕ). z ∷ []) (eqb-true b 10 h))
ended_text_is_body_and_lf (b ∷ c ∷ bs) h = let r = ended_text_is_body_and_lf (c ∷ bs) h in (b ∷ r.0, ap (λ (z : List ℕ). b ∷ z) r.1)

-- Faults behind a place.
use Rattle.std.proofs.Common.{Bool, ◌&&◌, ◌==◌, ap, ◌∙◌, ◌≡◌, ◌⊎◌, inl, inr, ℕ, ◌<◌, nat_lt, List, true, false, Result, Ok, Err, refl, subst, sym}
use Rattle.std.proofs.lemmas.Bool.Decides.{Decides-ltb, Decides-eqb}
use Rattle.sudoers_grammar.specs.declared.fault.LineFault.{LineFault}
use Rattle.sudoers_grammar.specs.declared.fault.LineFault.TheVariants.{Syntax, NoMemory}
use Rattle.sudoers_grammar.specs.declared.fault.Why.{Why}
use Rattle.sudoers_grammar.specs.Node.{Node}
use Rattle.sudoers_grammar.specs.Line.{LineReadsAsNode, IsLineSyntaxFault}
use Rattle.sudoers_line_reader.specs.Outcome.{IsOutcomeOfLine}
use Rattle.sudoers_explain.specs.ExpectedPieces.{has_no_fault_before_end}

abbrev HasNoFaultBeforeEnd : ℕ → ℕ → List ℕ → Type 0
HasNoFaultBeforeEnd start stop line = ((n : Node) × LineReadsAsNode line n) ⊎ ((at : ℕ) × (w : Why) × IsLineSyntaxFault line at w × (start < at) × (at ≡ stop))

both_parts_of_and : (a b : Bool) → (a && b) ≡ true → (a ≡ true) × (b ≡ true)
both_parts_of_and true b e = (refl, e)
both_parts_of_and false b e = absurd cc

pub computed_test_is_meant : (start stop : ℕ) (line : List ℕ) (o : Result Node LineFault) → IsOutcomeOfLine line o → has_no_fault_before_end start stop o ≡ true → HasNoFaultBeforeEnd start stop line
computed_test_is_meant start stop line (Ok n) i e = inl (n, i)
computed_test_is_meant start stop line (Err (Syntax at w)) i e =
    let two = both_parts_of_and (nat_lt start at) (at == stop) e in
    inr (at, w, i, (Decides-ltb start at).0 two.0, (Decides-eqb at stop).0 two.1)
computed_test_is_meant start stop line (Err NoMemory) i e = absurd i

later_fault_at_end_passes_test : (start stop at : ℕ) → start < at → at ≡ stop → (nat_lt start at && at == stop) ≡ true
later_fault_at_end_passes_test start stop at l e = ap (λ b. b && at == stop) ((Decides-ltb start at).1 l) ∙ (Decides-eqb at stop).1 e

pub meant_test_is_computed : ((line : List ℕ) (node : Node) (at : ℕ) (why : Why) → LineReadsAsNode line node → IsLineSyntaxFault line at why → ⊥)
    → ((line : List ℕ) (at other : ℕ) (why cause : Why) → IsLineSyntaxFault line at why → IsLineSyntaxFault line other cause → (at ≡ other) × (why ≡ cause))
    → (start stop : ℕ) (line : List ℕ) (o : Result Node LineFault) → IsOutcomeOfLine line o → HasNoFaultBeforeEnd start stop line → has_no_fault_before_end start stop o ≡ true
meant_test_is_computed none one start stop line (Ok n) i m = refl
meant_test_is_computed none one start stop line (Err (Syntax at w)) i (inl r) = absurd (none line r.0 at w r.1 i)
meant_test_is_computed none one start stop line (Err (Syntax at w)) i (inr f) =
    let same : at ≡ f.0 = (one line at f.0 w f.1 i f.2).0 in
    later_fault_at_end_passes_test start stop at (subst (λ x. start < x) (sym same) f.3) (same ∙ f.4)
meant_test_is_computed none one start stop line (Err NoMemory) i m = absurd i

use Rattle.sudoers_edit.proofs.Common.{IsDefinitionCut, List, line_without_bytes, subst, true, sym, ℕ, ◌-◌, ◌∙◌, ◌≡◌}
use Rattle.sudoers_edit.specs.internal.LineCuts.{IsLineKnown}
use Rattle.sudoers_edit.proofs.LawsBelow.{prune_edit_laws_hold}
use Rattle.sudoers_edit.proofs.LineCutLemmas.{sure_cut_is_definition_cut, sure_cut_leaves_known_line}
use Rattle.sudoers_edit.proofs.line_being_cut.LineBeingCut.cut_definition_without_reading.Goals as goal

pub returns-clause-cut : goal.returns-clause-cut
returns-clause-cut c =
    let text : List ℕ = c.args.text.now in
    let less : List ℕ = line_without_bytes c.in-Some.from c.in-Some.to text in
    let text_is : c.from_vec.result ≡ less = c.from_vec.ensures ∙ c.in_ok-less.ensures in (
      λ n lines line says here same. subst (λ (t : List ℕ). IsDefinitionCut n c.args.at lines line t c.in_ok-splice.splice) (sym text_is)
          (subst (λ (s : List ℕ). IsDefinitionCut n c.args.at lines line less s) (sym c.in_ok-splice.ensures)
          (sure_cut_is_definition_cut prune_edit_laws_hold c.args.self.now text c.args.at c.in-Some.from c.in-Some.to n lines line c.requires c.in-Some.ensures says here same)),
      subst (λ (t : List ℕ). IsLineKnown (record { reading = c.args.self.now.reading; at = c.args.at; count = c.args.self.now.count - 1; is_plain = true }) t) (sym text_is)
          (sure_cut_leaves_known_line prune_edit_laws_hold c.args.self.now text c.args.at c.in-Some.from c.in-Some.to c.requires c.in-Some.ensures),
    )

use Rattle.sudoers_check.proofs.Common.{NodeOnSearchPath, HasSearchInvariantWithNextNode, List, None, Some, [], ap, arith, length, slice_get, slice_get_within, steps_left_on_path, subst, sym, ℕ, ◌++◌, ◌-◌, ◌∙◌, ◌∷◌, ◌≡◌}
use Rattle.sudoers_check.proofs.Closing.{closing_nodes_keeps_met_nodes, left_closed}
use Rattle.sudoers_check.proofs.Fuel.{pushed_step_adds_its_steps_left}
use Rattle.sudoers_check.proofs.Lists.{popped_list_is_front_and_last}
use Rattle.sudoers_check.proofs.Searching.{last_at, left_open, no_group}
use Rattle.sudoers_check.proofs.cycles.CycleSearch.leave_last_node.Goals as goal

pub close_open_nodes-requires-clause-place : goal.close_open_nodes-requires-clause-place
close_open_nodes-requires-clause-place c =
    let self = c.args.self.now in
    slice_get_within self.nodes.items c.args.step.place c.args.step.node
    (last_at c.args.graph.now self.standings.items self.marks.items self.nodes.items self.groups.items self.way.items c.args.step c.requires.kept)

pub returns-then-start-step : goal.returns-then-start-step
returns-then-start-step c =
    let graph = c.args.graph.now in
    let step : NodeOnSearchPath = c.args.step in
    let self = c.args.self.now in
    let new = c.close_open_nodes.new.self in
    let groups : List ℕ = c.pop.new.self.items in
    let last : slice_get self.groups.items (length self.groups.items - 1) ≡ Some c.in-Some.start =
    ap (λ xs. slice_get xs (length xs - 1)) (sym c.deref.ensures.value) ∙ sym c.last.ensures.value ∙ sym c.in-Some.ensures in
    let is : self.groups.items ≡ groups ++ step.place ∷ [] =
    popped_list_is_front_and_last self.groups.items groups c.pop.result self.groups.len c.in-Some.start c.pop.ensures.items c.pop.ensures.value self.groups.ok.0 last
    ∙ ap (λ n. groups ++ n ∷ []) c.if-start-step.true in
    let kept = left_closed graph self.standings.items self.marks.items self.nodes.items groups self.way.items step
    (subst (λ gs. HasSearchInvariantWithNextNode graph None self.standings.items self.marks.items self.nodes.items gs (self.way.items ++ step ∷ [])) is c.requires.kept)
    c.requires.edges new.standings.items new.marks.items new.nodes.items c.close_open_nodes.ensures.closed in
    record {
      kept =
          subst (λ gs. HasSearchInvariantWithNextNode graph None new.standings.items new.marks.items new.nodes.items gs new.way.items) (sym c.close_open_nodes.ensures.groups)
          (subst (λ way. HasSearchInvariantWithNextNode graph None new.standings.items new.marks.items new.nodes.items groups way) (sym c.close_open_nodes.ensures.way) kept);
      met = closing_nodes_keeps_met_nodes graph _ step.place self.standings.items self.marks.items self.nodes.items new.standings.items new.marks.items new.nodes.items c.close_open_nodes.ensures.closed;
      less =
          let way_is = ap (steps_left_on_path graph) c.close_open_nodes.ensures.way in
          omega (arith, way_is, pushed_step_adds_its_steps_left graph self.way.items step, c.close_open_nodes.ensures.closed.fresh_same);
    }

pub returns-in_default : goal.returns-in_default
returns-in_default c =
    let graph = c.args.graph.now in
    let step : NodeOnSearchPath = c.args.step in
    let self = c.args.self.now in
    let last : None ≡ slice_get self.groups.items (length self.groups.items - 1) =
    c.in_default.ensures ∙ c.last.ensures.value ∙ ap (λ xs. slice_get xs (length xs - 1)) c.deref.ensures.value in
    record {
      kept = left_open graph self.standings.items self.marks.items self.nodes.items self.groups.items self.way.items step c.requires.kept c.requires.edges
          (no_group graph self.standings.items self.marks.items self.nodes.items self.groups.items self.way.items step c.requires.kept None last (λ e. absurd cc));
      met = λ v met. met;
      less = omega (arith, pushed_step_adds_its_steps_left graph self.way.items step);
    }

pub returns-else-start-step : goal.returns-else-start-step
returns-else-start-step c =
    let graph = c.args.graph.now in
    let step : NodeOnSearchPath = c.args.step in
    let self = c.args.self.now in
    let last : Some c.in-Some.start ≡ slice_get self.groups.items (length self.groups.items - 1) =
    c.in-Some.ensures ∙ c.last.ensures.value ∙ ap (λ xs. slice_get xs (length xs - 1)) c.deref.ensures.value in
    record {
      kept = left_open graph self.standings.items self.marks.items self.nodes.items self.groups.items self.way.items step c.requires.kept c.requires.edges
          (no_group graph self.standings.items self.marks.items self.nodes.items self.groups.items self.way.items step c.requires.kept (Some c.in-Some.start) last
          (λ e. let same : c.in-Some.start ≡ step.place = cc in c.if-start-step.false same));
      met = λ v met. met;
      less = omega (arith, pushed_step_adds_its_steps_left graph self.way.items step);
    }

use Rattle.sudoers_check.proofs.Common.{NodeSearchState, Some, ap, arith, edge_targets_of_node, get_or, length, slice_get, slice_get_read, slice_get_within, sym, ◌<◌, ◌∙◌, ◌≡◌}
use Rattle.std.proofs.lemmas.Result.{on_ok_weaker}
use Rattle.sudoers_check.proofs.Lists.{All_at, copied_element_is_element_at_index}
use Rattle.sudoers_check.proofs.Searching.{last_at}
use Rattle.sudoers_check.proofs.Steps.{shorter_fuel, step_to_closed, step_to_open, step_to_new}
use Rattle.sudoers_check.proofs.cycles.CycleSearch.look.Goals as goal
use Rattle.sudoers_check.proofs.cycles.CycleSearch.look.Goals.{In-Some}

pub edges_of_node-requires : goal.edges_of_node-requires
edges_of_node-requires c =
    let self = c.args.self.now in
    let within = slice_get_within self.standings.items c.args.step.node _
    (c.requires.stands c.args.step.place c.args.step.node (last_at c.args.graph.now self.standings.items self.marks.items self.nodes.items self.groups.items self.way.items c.args.step c.requires)) in
    omega (arith, within, c.requires.standings_size)

got_edge : (c : In-Some) → slice_get c.edges_of_node.result.now c.args.step.edges ≡ Some c.in-Some.next
got_edge c = copied_element_is_element_at_index c.edges_of_node.result.now c.args.step.edges c.get.result c.in-Some.next c.get.ensures.lookup.0 c.get.ensures.lookup.1 c.in-Some.ensures

edge : (c : In-Some) → slice_get (edge_targets_of_node c.args.graph.now c.args.step.node) c.args.step.edges ≡ Some c.in-Some.next
edge c = ap (λ es. slice_get es c.args.step.edges) (sym c.edges_of_node.ensures.edges) ∙ got_edge c

-- how the node stands to which the edge leads
stands_so : (c : In-Some) (s : NodeSearchState) → s ≡ get_or c.args.self.now.standings.items c.in-Some.next s → slice_get c.args.self.now.standings.items c.in-Some.next ≡ Some s
stands_so c s is =
    let graph = c.args.graph.now in
    let within : c.in-Some.next < length graph = All_at (λ i. i < length graph) c.edges_of_node.result.now c.args.step.edges c.in-Some.next c.edges_of_node.ensures.nodes (got_edge c) in
    slice_get_read c.args.self.now.standings.items (length graph) c.in-Some.next s (sym c.requires.standings_size) within is

pub returns-in-New : goal.returns-in-New
returns-in-New c =
    let self = c.args.self.now in
    let stand : slice_get self.standings.items c.in-Some.next ≡ Some c.index.result.now = stands_so (goal.at.returns-in-New c).In-Some c.index.result.now c.index.ensures in
    on_ok_weaker c.enter.result (λ e. step_to_new c.args.graph.now self.standings.items self.marks.items self.nodes.items self.groups.items self.way.items c.args.step c.requires
    c.in-Some.next (edge (goal.at.returns-in-New c).In-Some) c.push.new.self.items c.in_ok-push.ensures.items
    (stand ∙ ap Some c.in-New.is) c.enter.new.self e.standings e.marks e.nodes e.groups e.way) c.enter.ensures

pub returns-in-Open : goal.returns-in-Open
returns-in-Open c =
    let self = c.args.self.now in
    let stand : slice_get self.standings.items c.in-Some.next ≡ Some c.index.result.now = stands_so (goal.at.returns-in-Open c).In-Some c.index.result.now c.index.ensures in
    record {
      kept = step_to_open c.args.graph.now self.standings.items self.marks.items self.nodes.items self.groups.items self.way.items c.args.step c.requires
          c.in-Some.next (edge (goal.at.returns-in-Open c).In-Some) c.push.new.self.items c.in_ok-push.ensures.items
          c.in-Open.place (stand ∙ ap Some c.in-Open.is) c.join_open_groups.new.groups.items c.join_open_groups.ensures;
      met = λ v met. met;
      less = shorter_fuel c.args.graph.now self.standings.items self.marks.items self.nodes.items self.groups.items self.way.items c.args.step c.requires
          c.in-Some.next (edge (goal.at.returns-in-Open c).In-Some) c.push.new.self.items c.in_ok-push.ensures.items;
    }

pub returns-in-Closed : goal.returns-in-Closed
returns-in-Closed c =
    let self = c.args.self.now in
    let stand : slice_get self.standings.items c.in-Some.next ≡ Some c.index.result.now = stands_so (goal.at.returns-in-Closed c).In-Some c.index.result.now c.index.ensures in
    record {
      kept = step_to_closed c.args.graph.now self.standings.items self.marks.items self.nodes.items self.groups.items self.way.items c.args.step c.requires
          c.in-Some.next (edge (goal.at.returns-in-Closed c).In-Some) c.push.new.self.items c.in_ok-push.ensures.items
          (stand ∙ ap Some c.in-Closed.is);
      met = λ v met. met;
      less = shorter_fuel c.args.graph.now self.standings.items self.marks.items self.nodes.items self.groups.items self.way.items c.args.step c.requires
          c.in-Some.next (edge (goal.at.returns-in-Closed c).In-Some) c.push.new.self.items c.in_ok-push.ensures.items;
    }

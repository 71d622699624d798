use Rattle.sudoers_check.proofs.Common.{Bool, IsMarkOfClosedNode, arith, eq-eqb, false, inr, length, nat_eq, sym, true, ◌+◌, ◌<◌, ◌∙◌, ◌≡◌}
use Rattle.sudoers_check.proofs.Closing.{closed_more, next_within, long, node_in_joined_group_is_marked_cyclic}
use Rattle.sudoers_check.proofs.cycles.CycleSearch.close_open_nodes.Goals as goal
use Rattle.sudoers_check.proofs.cycles.CycleSearch.close_open_nodes.Goals.{In-Some, then-not-alone, else-not-alone}

within : (c : In-Some) → c.in-Some.node < length c.loop-self.self.standings.items
within c =
    next_within c.args.graph.now (nat_eq (c.args.place + 1) c.len.result) c.args.self.now.standings.items c.args.self.now.marks.items c.args.self.now.nodes.items
    c.requires.stands (c.requires.marks ∙ sym c.requires.standings)
    c.loop-self.self.standings.items c.loop-self.self.marks.items c.loop-self.self.nodes.items c.pop.new.self.items c.in-Some.node c.in-Some.ensures.items c.loop-self.invariant.closed

pub index_mut-requires : goal.index_mut-requires
index_mut-requires c =
    let lt = within (goal.at.index_mut-requires c).In-Some in
    omega (arith, lt, c.loop-self.self.standings.ok.0)

pub has_edge_to_itself-requires : goal.has_edge_to_itself-requires
has_edge_to_itself-requires c =
    let lt = within (goal.at.has_edge_to_itself-requires c).In-Some in
    omega (arith, lt, c.loop-self.invariant.closed.standings_size, c.requires.standings)

pub index_mut-requires-in-loop-self : goal.index_mut-requires-in-loop-self
index_mut-requires-in-loop-self c =
    let lt = within (goal.at.index_mut-requires-in-loop-self c).In-Some in
    omega (arith, lt, c.loop-self.invariant.closed.standings_size, c.loop-self.invariant.closed.marks_size, c.requires.standings, c.requires.marks, c.loop-self.self.marks.ok.0)

pub loop-self-preserved : goal.loop-self-preserved
loop-self-preserved c =
    let graph = c.args.graph.now in
    let node = c.in-Some.node in
    let alone : Bool = nat_eq (c.args.place + 1) c.len.result in
    let old = c.args.self.now in
    let self = c.loop-self.self in
    let count = long graph alone old.standings.items old.marks.items old.nodes.items
    c.requires.stands (c.requires.marks ∙ sym c.requires.standings)
    self.standings.items self.marks.items self.nodes.items c.pop.new.self.items node c.in-Some.ensures.items c.loop-self.invariant.closed in
    let mark : IsMarkOfClosedNode graph alone node c.if-not-alone.value = elim c.if-not-alone.branch [
      | then-not-alone w ↦ node_in_joined_group_is_marked_cyclic graph node (c.args.place + 1) c.len.result c.if-not-alone.value w.value-is w.if-not-alone.true
      | else-not-alone w ↦ record {
        says = λ e. inr (w.has_edge_to_itself.ensures.0 (sym w.value-is ∙ e));
        denies = λ e. (eq-eqb (c.args.place + 1) c.len.result w.if-not-alone.false, λ l. let clash : false ≡ true = sym e ∙ w.value-is ∙ w.has_edge_to_itself.ensures.1 l in cc);
      }
    ] in
    record {
      closed = closed_more graph alone old.standings.items old.marks.items old.nodes.items
          c.requires.stands (c.requires.marks ∙ sym c.requires.standings)
          self.standings.items self.marks.items self.nodes.items c.pop.new.self.items node c.in-Some.ensures.items c.loop-self.invariant.closed
          c.if-not-alone.value mark;
      place = omega (arith, count, c.loop-self-test.true, c.len-in-loop-self.ensures, self.nodes.ok.0);
      groups = c.loop-self.invariant.groups;
      way = c.loop-self.invariant.way;
    }

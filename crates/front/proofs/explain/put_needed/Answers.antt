-- `put_needed` meets its contract. Assumes nothing.
use Rattle.calls.proofs.NormalLaws.{kept, kept-inside, kept-part, kept-stored}
use Rattle.front.proofs.explain.put_needed.Goals as goal

pub slice_bounds-tree-end : goal.slice_bounds-tree-end
slice_bounds-tree-end g c = kept-inside (kept _ _ _ _ _ c.in-Ok.stored c.in-Ok.ensures.outcome)

pub slice_bounds-tree-end-2 : goal.slice_bounds-tree-end-2
slice_bounds-tree-end-2 g c = kept-part (kept _ _ _ _ _ c.in-Ok.stored c.in-Ok.ensures.outcome)

pub normal_text-needed-requires : goal.normal_text-needed-requires
normal_text-needed-requires g c = kept-stored (kept _ _ _ _ _ c.in-Ok.stored c.in-Ok.ensures.outcome) c.in-Ok.ensures.few

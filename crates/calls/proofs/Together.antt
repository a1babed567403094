-- The three demands, each as one.
-- Assumes nothing.
use Rattle.calls.specs.Demands.{Demand1, Demand2, Demand3}
use Rattle.calls.proofs.Demands.{read-is-settled, normal-text-is-settled, measure-is-settled, structurally_eq_is-settled, read-stores_a_tree, read-answers_as_defined, normal-text-answers_as_defined, measure-tells_what_read_will, room-is-enough, normal-text-is-written, normal-text-is_too_long, equal_exactly_when_trees_agree, reads-back}
use Rattle.calls.proofs.Refusals.{measure-refuses, read-refuses, normal-text-refuses, structurally_eq_refuses}

pub demand_one : Demand1
demand_one =
    record {
      of_read = read-is-settled;
      of_normal_text = normal-text-is-settled;
      of_measure = measure-is-settled;
      of_structurally_eq = structurally_eq_is-settled;
      measure_refuses = measure-refuses;
      read_refuses = read-refuses;
      normal_text_refuses = normal-text-refuses;
      structurally_eq_refuses = structurally_eq_refuses;
      read_stores_a_tree = read-stores_a_tree;
    }

pub demand_two : Demand2
demand_two =
    record { of_read = read-answers_as_defined; of_normal_text = normal-text-answers_as_defined; of_measure = measure-tells_what_read_will; with_room = room-is-enough }

pub demand-three : Demand3
demand-three = record { is_written = normal-text-is-written; or_too_long = normal-text-is_too_long; equal = equal_exactly_when_trees_agree; back = reads-back }

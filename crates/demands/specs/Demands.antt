-- The three demands, and the theorems about definitions that they rest on. Each name here is the proof that a lower crate gives of a statement
-- that its specs/ writes out: with a proof taken away this file does not check.
-- Assumes nothing.
use Rattle.calls.specs.Demands.{Demand1, Demand2, Demand3, ReadStoresATree, NormalTextAnswersAsDefined, ReadsBack, ReadIsSettled, NormalTextIsSettled, MeasureIsSettled, StructurallyEqIsSettled, ReadAnswersAsDefined, MeasureTellsWhatReadWill, RoomIsEnough, EqualExactlyWhenTreesAgree, NormalTextsAreTheirOwn, NormalTextIsWritten, NormalTextIsTooLong}
use Rattle.calls.proofs.Demands as Calls
use Rattle.calls.specs.Refusals.{MeasureRefuses, ReadRefuses, NormalTextRefuses, StructurallyEqRefuses}
use Rattle.calls.proofs.Refusals as Refusals
use Rattle.calls.proofs.Together as Together
use Rattle.laws.specs.Demand3.{NormalTextsAreAccepted, EqualWhenTreesAgree, AgreeingTreesTakeTheSameRoom, NormalOfItsOutput, PrintedIsItsOwn}
use Rattle.laws.proofs.Demand3 as Laws
use Rattle.laws.proofs.Calls as LawsOfCalls
use Rattle.laws.specs.RefusedSets.{SetsAreRefusedExactly}
use Rattle.laws.proofs.RefusedSets as Sets
use Rattle.trees.specs.IsTree.{BuildsWhatIsATree, TreesAreOne}
use Rattle.trees.specs.Arms.{ComparesByTheArms}
use Rattle.trees.proofs.Trees as Trees
use Rattle.trees.proofs.Arms as Arms
use Rattle.front.specs.Laws.{EnoughIsLent, SameIsAgreement, CheckIsItsOwn}
use Rattle.front.proofs.Outcomes as FrontOutcomes
use Rattle.front.proofs.Laws as Front
use Rattle.laws.specs.Causes.{StoppedByItself}
use Rattle.laws.proofs.Stopped as LawsOfReading
use Rattle.laws.specs.StoredTrees.{StoredIsOneTree}
use Rattle.laws.proofs.StoredTrees as StoredTrees
use Rattle.laws.specs.Places.{StoppedWithin}
use Rattle.laws.proofs.StoppedWithin as LawsOfPlaces

-- ------------------------------------------------------------------ each as one

-- "Whoever hands in bytes, a grammar or a tree to compare, and lends buffers of any length gets a tree, a normal text, a yes or no, or one
-- numbered refusal with its place, and what each buffer then holds is fixed."
pub demand_one : Demand1
demand_one = Together.demand_one

-- "By a definition, every UTF-8 text of at most 65,535 bytes within 64 levels and 64 stacked repeats, given room, reads to the same tree or is
-- refused for the same cause at the same byte."
pub demand_two : Demand2
demand_two = Together.demand_two

-- "Two accepted texts, given room, have equal normal texts exactly when their trees agree in all but positions; each normal text is itself
-- accepted, reads to a tree that agrees, and is its own normal text."
pub demand-three : Demand3
demand-three = Together.demand-three

-- ------------------------------------------------------------------ demand 1: whatever is handed in, the answer and every lent word are fixed

-- two runs of `read` on the same arguments come to the same
pub read-is-settled : ReadIsSettled
read-is-settled = Calls.read-is-settled

-- two runs of `normal_text` do
pub normal-text-is-settled : NormalTextIsSettled
normal-text-is-settled = Calls.normal-text-is-settled

-- what `read` stores is one tree
pub read-stores_a_tree : ReadStoresATree
read-stores_a_tree = Calls.read-stores_a_tree

-- two runs of `measure` do
pub measure-is-settled : MeasureIsSettled
measure-is-settled = Calls.measure-is-settled

-- two runs of `structurally_eq` do
pub structurally_eq_is-settled : StructurallyEqIsSettled
structurally_eq_is-settled = Calls.structurally_eq_is-settled

-- a refusal of each call is one of the table's, and stands in the text
pub measure-refuses : MeasureRefuses
measure-refuses = Refusals.measure-refuses

pub read-refuses : ReadRefuses
read-refuses = Refusals.read-refuses

pub normal-text-refuses : NormalTextRefuses
normal-text-refuses = Refusals.normal-text-refuses

pub structurally_eq_refuses : StructurallyEqRefuses
structurally_eq_refuses = Refusals.structurally_eq_refuses

-- ------------------------------------------------------------------ demand 2: every text reads to the definition's tree, or is refused as it says

-- every answer of `read`, with what it leaves in what is lent
pub read-answers_as_defined : ReadAnswersAsDefined
read-answers_as_defined = Calls.read-answers_as_defined

-- every answer of `normal_text`
pub normal-text-answers_as_defined : NormalTextAnswersAsDefined
normal-text-answers_as_defined = Calls.normal-text-answers_as_defined

-- what `measure` answers is what `read` will, where that much is lent
pub measure-tells_what_read_will : MeasureTellsWhatReadWill
measure-tells_what_read_will = Calls.measure-tells_what_read_will

-- with room for four records a byte and the grammar's own, and for six bytes a byte, want of room stops nothing
pub room-is-enough : RoomIsEnough
room-is-enough = Calls.room-is-enough

-- a set is refused exactly if some span is reversed or two share a code
pub sets-are-refused_exactly : SetsAreRefusedExactly
sets-are-refused_exactly = Sets.sets-are-refused_exactly

-- what stops the reading of a text stands within it, or at its end
pub stopped-within : StoppedWithin
stopped-within = LawsOfPlaces.stopped-within

-- what stops the reading of a text is one of 1 to 21
pub stopped-by_itself : StoppedByItself
stopped-by_itself = LawsOfReading.stopped-by_itself

-- ------------------------------------------------------------------ demand 3: normal texts

-- two accepted texts have equal normal texts exactly when their trees agree
pub equal_exactly_when_trees_agree : EqualExactlyWhenTreesAgree
equal_exactly_when_trees_agree = Calls.equal_exactly_when_trees_agree

-- a normal text is accepted, reads to a tree that agrees, and is its own normal text
pub normal-texts-are_their_own : NormalTextsAreTheirOwn
normal-texts-are_their_own = Calls.normal-texts-are_their_own

-- with what each of the two calls answers and stores when it is handed a normal text
pub reads-back : ReadsBack
reads-back = Calls.reads-back

-- given room, the normal text is written
pub normal-text-is-written : NormalTextIsWritten
normal-text-is-written = Calls.normal-text-is-written

-- without room, or over 65,535 bytes, there is 24
pub normal-text-is_too_long : NormalTextIsTooLong
normal-text-is_too_long = Calls.normal-text-is_too_long

-- ------------------------------------------------------------------ the same of the definitions alone

-- the normal text of an accepted text is accepted
pub normal-texts-are-accepted : NormalTextsAreAccepted
normal-texts-are-accepted = Laws.normal-texts-are-accepted

-- normal texts are equal exactly for trees that agree
pub equal_when_trees_agree : EqualWhenTreesAgree
equal_when_trees_agree = Laws.equal_when_trees_agree

-- trees that agree take the same room
pub agreeing_trees_take-the-same-room : AgreeingTreesTakeTheSameRoom
agreeing_trees_take-the-same-room = Laws.agreeing_trees_take-the-same-room

-- the definition of `normal_text`, handed what it wrote, writes the same again
pub normal-of_its_output : NormalOfItsOutput
normal-of_its_output = LawsOfCalls.normal-of_its_output

-- so what the program `normal` prints for an accepted text, it prints for that again
pub printed-is_its_own : PrintedIsItsOwn
printed-is_its_own = LawsOfCalls.printed-is_its_own

-- ------------------------------------------------------------------ what is compared

-- what a text is read as, stored, is one tree
pub stored-is_one_tree : StoredIsOneTree
stored-is_one_tree = StoredTrees.stored-is_one_tree

-- words and texts are a tree just where the test finds that tree
pub builds_what_is-a_tree : BuildsWhatIsATree
builds_what_is-a_tree = Trees.builds_what_is-a_tree

-- and they are no other
pub trees-are-one : TreesAreOne
trees-are-one = Trees.trees-are-one

-- two expressions compare equal exactly when the Rust says so, arm by arm
pub compares_by_the-arms : ComparesByTheArms
compares_by_the-arms = Arms.compares_by_the-arms

-- ------------------------------------------------------------------ the front command

-- what it lends is enough: no answer is for want of room
pub enough-is-lent : EnoughIsLent
enough-is-lent = FrontOutcomes.enough-is-lent

-- `same` says yes exactly where both texts are accepted and their trees agree
pub same-is-agreement : SameIsAgreement
same-is-agreement = Front.same-is-agreement

-- `check` says yes exactly where a text is its own normal text
pub check-is-its-own : CheckIsItsOwn
check-is-its-own = Front.check-is-its-own

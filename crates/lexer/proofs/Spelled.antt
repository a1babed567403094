-- Words compared by their bytes, and by their characters, as the crates above cite it.
-- Assumes nothing.
pub use Rattle.characters.proofs.Spelled.{spells-codes}

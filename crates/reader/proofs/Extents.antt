-- The words and the bytes of places, or of sizes.
-- Assumes nothing.
use Prim.Native.Nat.{ℕ}
use mathlib.Core.Path.{◌≡◌}
use mathlib.Core.List.{List}
use lib.ListN.{length, get_or, set}
use Rattle.std.proofs.Math.ListN.{get_or-map, length-map}
use Rattle.std.proofs.lemmas.List.{map-set}
use Rattle.reader.specs.Places.{words_in, bytes_in}
use Rattle.reader.specs.declared.blocks.Extent.{Extent}

abbrev pub no_extent : Extent
no_extent = record { words = 0; bytes = 0 }

module _ (es : List Extent) where
  pub length-words : length (words_in es) ≡ length es
  length-words = length-map es (λ e. e.words)

  pub length-bytes : length (bytes_in es) ≡ length es
  length-bytes = length-map es (λ e. e.bytes)

  module _ (i : ℕ) where
    pub words-at : get_or (words_in es) i 0 ≡ (get_or es i no_extent).words
    words-at = get_or-map (λ e. e.words) es i no_extent

    pub bytes-at : get_or (bytes_in es) i 0 ≡ (get_or es i no_extent).bytes
    bytes-at = get_or-map (λ e. e.bytes) es i no_extent

    pub words-set : (e : Extent) → words_in (set es i e) ≡ set (words_in es) i e.words
    words-set e = map-set (λ x. x.words) es i e

    pub bytes-set : (e : Extent) → bytes_in (set es i e) ≡ set (bytes_in es) i e.bytes
    bytes-set e = map-set (λ x. x.bytes) es i e

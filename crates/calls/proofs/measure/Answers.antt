-- `measure` meets its contract.
-- Assumes nothing.
use Rattle.std.proofs.Common.{rules}
use Rattle.calls.specs.Promise.{SizedTo, MeasureTo}
use Rattle.calls.proofs.Mapped.{with_other_error}
use Rattle.calls.proofs.ReadLaws.{sized-measure, refused-measure}
use Rattle.calls.proofs.measure.Goals as goal

pub returns : goal.returns
returns c =
    record {
      outcome =
          with_other_error (λ o. SizedTo c.args.text.now o) (λ r. MeasureTo c.args.text.now r) _ _ c.map_err.ensures.cases
          (λ x k. sized-measure _ x k) (λ e f l k. refused-measure _ e f k (search rules)) c.extent.ensures.sizes;
      few = c.extent.ensures.few;
    }

-- What private functions promise.
use Rattle.std.specs.Prelude.{ℕ, List, Option, Some, None, if◌then◌else◌}
use Rattle.tlv.specs.declared.Form.{Form}
use Rattle.tlv.specs.Reading.{stop_at, is_whole}

-- the place behind a field, where a whole one stands
unfoldable pub behind : Form → List ℕ → ℕ → Option ℕ
behind form area at = if is_whole form area at then Some (stop_at form area at) else None

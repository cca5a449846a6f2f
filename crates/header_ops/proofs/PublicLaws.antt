-- The public laws of how many headers there are, and of a header put in.
use Rattle.std.proofs.Common.{ℕ, ◌≤◌, List, length, ◌≡◌, ◌+◌}
use Rattle.http_model.specs.Block.{Block, Header, weight}
use Rattle.http_model.specs.Blocks.{load}
use Rattle.header_ops.specs.Lists.{values_named, fulls_named}
use Rattle.header_ops.specs.Headers.{with_header, HasEnd}
use Rattle.header_ops.proofs.Listed as listed
use Rattle.header_ops.proofs.Whole as whole
use Rattle.header_ops.proofs.Ends as ends

-- There are at most as many values of a name as bytes in the blocks.
pub few_values : (name : List ℕ) (bs : List Block) → length (values_named name bs) ≤ load bs
few_values = listed.few_values

-- There are at most as many headers of a name as blocks.
pub few_fulls : (name : List ℕ) (bs : List Block) → length (fulls_named name bs) ≤ length bs
few_fulls = whole.few_fulls

-- A header put in front of the end leaves the end.
pub HasEnd-with_header : (n v : List ℕ) (bs : List Block) → HasEnd bs → HasEnd (with_header (Header n v) bs)
HasEnd-with_header = ends.HasEnd-with_header

-- A block put in front of the end adds its weight to the load.
pub load-with_header : (b : Block) (bs : List Block) → HasEnd bs → load (with_header b bs) ≡ load bs + weight b
load-with_header = ends.load-with_header

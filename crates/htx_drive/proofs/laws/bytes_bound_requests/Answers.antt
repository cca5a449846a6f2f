use Rattle.htx_drive.proofs.Requests.{has_requests}
use Rattle.htx_drive.proofs.laws.bytes_bound_requests.Goals as goal

pub returns : goal.returns
returns g c = λ cfg bytes b total. has_requests (g.C.Machine.meaning cfg) b total bytes

use Rattle.std.proofs.Common.{rules, ◌≡◌, refl, length, slice_index_or}
use Rattle.px_pool.specs.Owners.{place_of}
use Rattle.px_pool.proofs.Given.{lent, lent_value, lent_put, put_others, put_free}
use Rattle.px_pool.proofs.pool.Pool.core.Goals as goal

pub returns : goal.returns
returns g c =
    let at : c.seat-place.result ≡ place_of c.args.conn c.self.inside.owners.items = search rules in
    let same : length c.self.inside.owners.items ≡ length c.self.inside.cores.items = search rules in
    let is : c.index_mut.result.now ≡ slice_index_or c.self.inside.cores.items c.seat-place.result c.index_mut.result.now = search rules in (
      (refl, lent c.args.conn c.seat-place.result c.self.inside.owners.items c.self.inside.cores.items c.args.self.now c.self.view_is at),
      record {
        back = tt;
        value = lent_value c.args.conn c.seat-place.result c.self.inside.owners.items c.self.inside.cores.items c.args.self.now c.index_mut.result.now c.self.view_is at is c.requires.has same;
        put = lent_put c.args.conn c.self.inside.owners.items c.self.inside.cores.items c.args.self.now c.self.view_is c.requires.has same;
        others = λ core other h. put_others c.args.conn other c.args.self.now core h;
        free = λ core. put_free c.args.conn c.args.self.now.owners c.args.self.now.cores core;
      },
    )

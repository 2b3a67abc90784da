use Rattle.kz_acls.proofs.Named.{id_put, entry_put}
use Rattle.kz_acls.proofs.list.AclList.put.Goals as goal

pub invariant_of-self-in_err-put : goal.invariant_of-self-in_err-put
invariant_of-self-in_err-put c = rw (c.in_ok-put_id.ensures.ok, c.in_err-put.ensures.err) (id_put c.args.entry c.self.inside.names c.self.inside.entries c.self.invariant)

pub invariant_of-self-2 : goal.invariant_of-self-2
invariant_of-self-2 c = rw (c.in_ok-put_id.ensures.ok, c.in_ok-put.ensures.ok) (entry_put c.args.entry c.self.inside.names c.self.inside.entries c.self.invariant)

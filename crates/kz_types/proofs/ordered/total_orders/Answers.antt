use Rattle.kz_types.proofs.Order.{nat_order, int_order, bytes_order}
use Rattle.kz_types.proofs.ordered.total_orders.Goals as goal

pub returns-clause-numbers : goal.returns-clause-numbers
returns-clause-numbers c = nat_order

pub returns-clause-signed_numbers : goal.returns-clause-signed_numbers
returns-clause-signed_numbers c = int_order

pub returns-clause-byte_strings : goal.returns-clause-byte_strings
returns-clause-byte_strings c = bytes_order

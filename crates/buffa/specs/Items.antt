-- Words that contracts of MessageSet Items cite, under one name.
pub use Rattle.buffa_message_set.specs.Item.{HasMessage, IsTypeId, SpendsUnknown, item_in, item_size, item_encoding}

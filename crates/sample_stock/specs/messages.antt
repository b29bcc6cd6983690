-- Words for what messages mean, a file for each, made of stock.proto by protoc-gen-buffa.
pub mod Line
pub mod Order
pub mod Place
pub mod Stock

-- Words for what messages mean, a file for each, made of error_info.proto by protoc-gen-buffa.
pub mod ErrorInfo

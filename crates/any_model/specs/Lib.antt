pub mod AnyModels
